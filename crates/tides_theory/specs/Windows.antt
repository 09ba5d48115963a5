-- When sluices may move (document 02, request 1): from 60 minutes after a high water up to, but not including, the following low
-- water. Each move takes 4 minutes and must finish by the window's end.
use Rattle.std.specs.Prelude.{ℕ, ◌+◌, ◌-◌, ◌/◌, ◌<◌, Bool, true, false, cond, ◌&&◌, ◌||◌, not, List, [], ◌∷◌, leb, ltb, get_or}
use Rattle.std.specs.Bool.{beq}
use Rattle.tides_theory.specs.Calendar.{minute_of}
use Rattle.tides_theory.specs.Lines.{Notice}

-- a high or a low water, at a minute counted from 2000-01-01 00:00
pub record Tide : Type 0 where
  pub at : ℕ
  pub high : Bool

abbrev pub tide_of : Notice → Tide
tide_of n = record { at = minute_of n.date n.hour n.minute; high = n.high }

-- one tide after another: its time rises, and its letter is the other one
abbrev pub follows : Tide → Tide → Bool
follows a b = ltb a.at b.at && not (beq a.high b.high)

-- each of a list's tides follows the one before
unfoldable pub in_order : List Tide → Bool
in_order [] = true
in_order (a ∷ []) = true
in_order (a ∷ b ∷ tides) = follows a b && in_order (b ∷ tides)

-- from a minute up to, but not including, another; empty where it is not before that
pub record Window : Type 0 where
  pub from : ℕ
  pub to : ℕ

abbrev pub window_of : Tide → Tide → Window
window_of high low = record { from = high.at + 60; to = low.at }

-- a window for each high water with a low water after it
unfoldable pub windows : List Tide → List Window
windows [] = []
windows (a ∷ []) = []
windows (a ∷ b ∷ tides) = cond (a.high && not b.high) (window_of a b ∷ windows (b ∷ tides)) (windows (b ∷ tides))

-- the windows by their place, from 0; an empty one stands for one that is not there
abbrev pub no_window : Window
no_window = record { from = 0; to = 0 }

abbrev pub window_at : List Window → ℕ → Window
window_at ws i = get_or ws i no_window

-- a window that stands behind another: it begins later than that, and than that ends
pub record Behind (w v : Window) : Type 0 where
  pub begins : w.from < v.from
  pub apart : w.to < v.from

-- the minutes that a move takes
abbrev pub move_time : ℕ
move_time = 4

-- a move that begins at minute s does so within a window, and ends by its end
abbrev pub allows : Window → ℕ → Bool
allows w s = leb w.from s && leb (s + move_time) w.to

unfoldable pub any_allows : List Window → ℕ → Bool
any_allows [] s = false
any_allows (w ∷ ws) s = allows w s || any_allows ws s

-- how many moves fit in a window, one after the other
abbrev pub moves_that_fit : Window → ℕ
moves_that_fit w = (w.to - w.from) / move_time
