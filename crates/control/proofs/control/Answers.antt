-- `control::control` meets its contract: an arm for each code, where the definition computes; each edits inside the viewport. In the last one the code is $1F, since it is none of the others. Assumes nothing.
use borrow.Author.Rules.{rules}
use Rattle.port.specs.Step.{control}
use Rattle.control.proofs.Arms.{planned_on_screen, at_code, obeyed_idle, obeyed_wait, obeyed_view, obeyed_effect, last_code}
use Rattle.port.proofs.Views.{keeps_right, keeps_line_start, keeps_line_end, keeps_clear_line, keeps_clear_port, keeps_port_start, keeps_port_end, keeps_backspace, keeps_line_feed, keeps_return, keeps_moves, keeps_up}
use Rattle.control.proofs.control.Goals as goal

pub planned-requires : goal.planned-requires
planned-requires c = search (planned_on_screen, keeps_line_start, rules)

pub planned-requires-in-8 : goal.planned-requires-in-8
planned-requires-in-8 c = search (planned_on_screen, keeps_backspace, rules)

pub planned-requires-in-10 : goal.planned-requires-in-10
planned-requires-in-10 c = search (planned_on_screen, keeps_line_feed, rules)

pub planned-requires-in-11 : goal.planned-requires-in-11
planned-requires-in-11 c = search (planned_on_screen, keeps_port_end, rules)

pub planned-requires-in-12 : goal.planned-requires-in-12
planned-requires-in-12 c = search (planned_on_screen, keeps_clear_port, rules)

pub planned-requires-in-13 : goal.planned-requires-in-13
planned-requires-in-13 c = search (planned_on_screen, keeps_return, rules)

pub planned-requires-in-19 : goal.planned-requires-in-19
planned-requires-in-19 c = search (planned_on_screen, keeps_port_start, rules)

pub planned-requires-in-22 : goal.planned-requires-in-22
planned-requires-in-22 c = search (planned_on_screen, keeps_moves, rules)

pub planned-requires-in-23 : goal.planned-requires-in-23
planned-requires-in-23 c = search (planned_on_screen, keeps_moves, rules)

pub planned-requires-in-26 : goal.planned-requires-in-26
planned-requires-in-26 c = search (planned_on_screen, keeps_clear_line, rules)

pub planned-requires-in-28 : goal.planned-requires-in-28
planned-requires-in-28 c = search (planned_on_screen, keeps_right, rules)

pub planned-requires-in-29 : goal.planned-requires-in-29
planned-requires-in-29 c = search (planned_on_screen, keeps_line_end, rules)

pub planned-requires-in_default : goal.planned-requires-in_default
planned-requires-in_default c = search (planned_on_screen, keeps_up, rules)

pub returns-in-0 : goal.returns-in-0
unfolding control
returns-in-0 c = λ p. search (at_code, obeyed_idle)

pub returns-in-2 : goal.returns-in-2
unfolding control
returns-in-2 c = λ p. search (at_code, obeyed_wait)

pub returns-in-3 : goal.returns-in-3
unfolding control
returns-in-3 c = λ p. search (at_code, obeyed_effect)

pub returns-in-5 : goal.returns-in-5
unfolding control
returns-in-5 c = λ p. search (at_code, obeyed_wait)

pub returns-in-6 : goal.returns-in-6
unfolding control
returns-in-6 c = λ p. search (at_code, obeyed_wait)

pub returns-in-7 : goal.returns-in-7
unfolding control
returns-in-7 c = λ p. search (at_code, obeyed_idle)

pub returns-in-8 : goal.returns-in-8
unfolding control
returns-in-8 c = λ p. search (at_code, obeyed_effect)

pub returns-in-9 : goal.returns-in-9
unfolding control
returns-in-9 c = λ p. search (at_code, obeyed_idle)

pub returns-in-10 : goal.returns-in-10
unfolding control
returns-in-10 c = λ p. search (at_code, obeyed_effect)

pub returns-in-11 : goal.returns-in-11
unfolding control
returns-in-11 c = λ p. search (at_code, obeyed_effect)

pub returns-in-12 : goal.returns-in-12
unfolding control
returns-in-12 c = λ p. search (at_code, obeyed_effect)

pub returns-in-13 : goal.returns-in-13
unfolding control
returns-in-13 c = λ p. search (at_code, obeyed_effect)

pub returns-in-14 : goal.returns-in-14
unfolding control
returns-in-14 c = λ p. search (at_code, obeyed_view)

pub returns-in-15 : goal.returns-in-15
unfolding control
returns-in-15 c = λ p. search (at_code, obeyed_view)

pub returns-in-16 : goal.returns-in-16
unfolding control
returns-in-16 c = λ p. search (at_code, obeyed_wait)

pub returns-in-17 : goal.returns-in-17
unfolding control
returns-in-17 c = λ p. search (at_code, obeyed_idle)

pub returns-in-18 : goal.returns-in-18
unfolding control
returns-in-18 c = λ p. search (at_code, obeyed_idle)

pub returns-in-19 : goal.returns-in-19
unfolding control
returns-in-19 c = λ p. search (at_code, obeyed_effect)

pub returns-in-20 : goal.returns-in-20
unfolding control
returns-in-20 c = λ p. search (at_code, obeyed_wait)

pub returns-in-21 : goal.returns-in-21
unfolding control
returns-in-21 c = λ p. search (at_code, obeyed_wait)

pub returns-in-22 : goal.returns-in-22
unfolding control
returns-in-22 c = λ p. search (at_code, obeyed_effect)

pub returns-in-23 : goal.returns-in-23
unfolding control
returns-in-23 c = λ p. search (at_code, obeyed_effect)

pub returns-in-24 : goal.returns-in-24
unfolding control
returns-in-24 c = λ p. search (at_code, obeyed_view)

pub returns-in-25 : goal.returns-in-25
unfolding control
returns-in-25 c = λ p. search (at_code, obeyed_view)

pub returns-in-26 : goal.returns-in-26
unfolding control
returns-in-26 c = λ p. search (at_code, obeyed_effect)

pub returns-in-27 : goal.returns-in-27
unfolding control
returns-in-27 c = λ p. search (at_code, obeyed_view)

pub returns-in-28 : goal.returns-in-28
unfolding control
returns-in-28 c = λ p. search (at_code, obeyed_effect)

pub returns-in-29 : goal.returns-in-29
unfolding control
returns-in-29 c = λ p. search (at_code, obeyed_effect)

pub returns-in-30 : goal.returns-in-30
unfolding control
returns-in-30 c = λ p. search (at_code, obeyed_wait)

pub returns-in_default : goal.returns-in_default
unfolding control
returns-in_default c = λ p.
    let start = c in
    let known = start.requires in
    at_code _ start.args.code 31 (last_code start.args.code c.in_default.in_default-own.rest known.2 known.3 known.1) (search obeyed_effect)
