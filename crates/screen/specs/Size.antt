-- Paper 01, 'Screen and port': 'the screen is 1,920 bytes'. Assumes nothing.
use Rattle.std.specs.Prelude.{ℕ, Bool, List, eqb, replicate}

-- the bytes of a lent slice are a screen's
unfoldable pub is_screen : ℕ → Bool
is_screen size = eqb size 1920

-- 'a blank is $A0': a screen of blanks
unfoldable pub blank_screen : List ℕ
blank_screen = replicate 1920 0xa0
