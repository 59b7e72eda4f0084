-- A number that a function answered, as its bits and read back.
use mathlib.Core.Path.{◌≡◌, ◌∙◌}
use lib.IntN.{ℤ}
use mir.Syntax.{w64}
use mir.Val.{SFits, to_z, of_z}
use mir.Facts.{to_z-of_z}

pub read_back : {z m : ℤ} → SFits w64 z → z ≡ m → to_z w64 (of_z w64 z) ≡ m
read_back fits e = to_z-of_z fits ∙ e
