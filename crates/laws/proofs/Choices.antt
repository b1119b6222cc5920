-- A definition of a code is a chain of choices, `cond test this that`, and the code branches on the same tests in the same order.
-- So two laws, for a test that is true and for one that is false, serve every code. Assumes nothing.
use mathlib.Core.Path.{◌≡◌, sym, ap, ◌∙◌}
use mathlib.Core.Bool.{Bool, true, false, cond, not}
use mathlib.Core.List.{List, ◌++◌}
use borrow.Author.Tests.{lt-ltb, le-ltb, eq-eqb, ne_eqb}

pub taken : {A : Type 0} {x : A} (t : Bool) (a b : A) → t ≡ true → x ≡ a → x ≡ cond t a b
taken t a b h e = rw h e

pub passed : {A : Type 0} {x : A} (t : Bool) (a b : A) → t ≡ false → x ≡ b → x ≡ cond t a b
passed t a b h e = rw h e

-- what follows a choice follows each of its arms
pub appended : {A : Type 0} {x : List A} (t : Bool) (a b c : List A) → x ≡ cond t (a ++ c) (b ++ c) → x ≡ cond t a b ++ c
appended true a b c e = e
appended false a b c e = e

pub ruleset choices = (taken, passed, lt-ltb, le-ltb, eq-eqb, ne_eqb)

-- a test, and its negation, by what a function answered
pub same_test : (answer t b : Bool) → answer ≡ t → answer ≡ b → t ≡ b
same_test answer t b is e = sym is ∙ e

pub same_not : (answer t b : Bool) → answer ≡ t → not answer ≡ b → not t ≡ b
same_not answer t b is e = ap not (sym is) ∙ e

pub ruleset answers = (taken, passed, same_test, same_not)
