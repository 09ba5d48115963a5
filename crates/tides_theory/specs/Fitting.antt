-- Moves in a window, wherever they begin and in whatever order they are named.
use Rattle.std.specs.Prelude.{ℕ, zero, suc, ◌+◌, Bool, true, ◌&&◌, ◌||◌, List, [], ◌∷◌, leb}
use Rattle.tides_theory.specs.Windows.{Window, move_time, allows}

-- two moves do not overlap: one has ended when the other begins
abbrev pub apart : ℕ → ℕ → Bool
apart s t = leb (s + move_time) t || leb (t + move_time) s

unfoldable pub clear_of : ℕ → List ℕ → Bool
clear_of s [] = true
clear_of s (t ∷ ts) = apart s t && clear_of s ts

-- moves that begin at these minutes fit in a window: each does, and no two overlap
unfoldable pub fit_in : Window → List ℕ → Bool
fit_in w [] = true
fit_in w (s ∷ ss) = allows w s && clear_of s ss && fit_in w ss

-- k moves one after the other, from minute s on
unfoldable pub one_after_the_other : ℕ → ℕ → List ℕ
one_after_the_other s zero = []
one_after_the_other s (suc k) = s ∷ one_after_the_other (s + move_time) k
