-- `control::perform` meets its contract: an arm for each command that takes parameters; the last one is the only one left. Assumes nothing.
use borrow.Author.Rules.{rules}
use Rattle.port.specs.Step.{perform}
use Rattle.port.proofs.Views.{keeps_horizontal_scroll}
use Rattle.printer.proofs.Printing.{stored_as}
use Rattle.control.specs.Active.{with_active}
use Rattle.control.proofs.Arms.{planned_on_screen, spaces_on_screen, commands, last_command}
use Rattle.control.proofs.perform.Goals as goal

pub planned-requires : goal.planned-requires
planned-requires c = search (planned_on_screen, keeps_horizontal_scroll, rules)

pub print_spaces-requires : goal.print_spaces-requires
print_spaces-requires c = search (spaces_on_screen, stored_as, rules)

pub returns-in-2 : goal.returns-in-2
unfolding perform
returns-in-2 c = λ p at. search commands

pub returns-in-5 : goal.returns-in-5
unfolding perform
returns-in-5 c = λ p at. search commands

pub returns-in-6 : goal.returns-in-6
unfolding perform
returns-in-6 c = λ p at. search commands

pub returns-in-16 : goal.returns-in-16
unfolding perform
returns-in-16 c = λ p at. search commands

pub returns-in-20 : goal.returns-in-20
unfolding perform
returns-in-20 c = λ p at. search commands

pub returns-in-21 : goal.returns-in-21
unfolding perform
returns-in-21 c = λ p at. search commands

pub returns-in_default : goal.returns-in_default
unfolding perform
returns-in_default c = λ p at.
    let start = c in
    last_command (with_active p start.args.a) start.args.a.waiting start.args.b c.in_default.in_default-own.rest (search commands)
