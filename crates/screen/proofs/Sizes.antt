-- The test for a screen is true exactly of 1,920 bytes, and so of the blank screen. Assumes nothing.
use Prim.Native.Nat.{ℕ, ◌<◌}
use mathlib.Core.Path.{◌≡◌}
use lib.ListN.{length, get_or, length-replicate, get_or-replicate}
use Rattle.laws.proofs.Tests.{Decides, decides_eq}
use Rattle.screen.specs.Size.{is_screen, blank_screen}

pub decides_screen : (size : ℕ) → Decides (is_screen size) (size ≡ 1920)
unfolding is_screen
decides_screen size = decides_eq size 1920

pub blank_size : length blank_screen ≡ 1920
unfolding blank_screen
blank_size = simp length-replicate

pub blank_at : (k : ℕ) → k < 1920 → get_or blank_screen k 0 ≡ 0xa0
unfolding blank_screen
blank_at k h = get_or-replicate 1920 k 0xa0 0 h
