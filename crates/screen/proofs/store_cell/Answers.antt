-- `screen::store_cell` meets its contract: the one cell of its rectangle. Assumes nothing.
use borrow.Author.Rules.{rules}
use Rattle.screen.proofs.Stores.{stores_cell}
use Rattle.screen.proofs.store_cell.Goals as goal

pub returns : goal.returns
returns c = search (stores_cell, rules)
