-- A call's answer and a session's end as bytes, for callers in other languages. Assumes nothing.
use Rattle.std.specs.Prelude.{ℕ, ◌/◌, ◌%◌, List, [], ◌∷◌, ◌++◌}
use Rattle.reply.specs.Numbers.{status_number}
use Rattle.calls.specs.Taking.{Taken}
use Rattle.console.specs.Calls.{take_call}
use Rattle.session.specs.declared.Session.{Session}

-- a number's low four bytes, lowest first
abbrev pub word_of : ℕ → List ℕ
word_of n = n % 256 ∷ n / 256 % 256 ∷ n / 65536 % 256 ∷ n / 16777216 % 256 ∷ []

-- the number of the status, and the count as a word
abbrev pub head_of : ℕ → ℕ → List ℕ
head_of number count = number ∷ word_of count

-- the status and a count, the cursor's column and its line, then the marks as a word and how many lines are marked
abbrev pub parts_of : ℕ → ℕ → ℕ → ℕ → Taken → List ℕ
parts_of number count column line taken = head_of number count ++ (column ∷ line ∷ word_of taken.marks) ++ (taken.count ∷ [])

-- the last status and the bells, the cursor, and what a taking of the session's port hands out
abbrev pub end_of : Session → List ℕ
end_of x = parts_of (status_number x.status) x.bells x.port.view.column x.port.view.line (take_call x.port).result
