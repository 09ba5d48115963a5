-- `text::Text::put_setting` meets its contract: with i notches left, those from i on are put. Assumes nothing.
use Prim.Native.Nat.{◌+◌, ◌-◌, ◌*◌, ◌≤◌}
use lib.ListN.{length, drop}
use Rattle.text_theory.specs.Lines.{setting_text}
use Rattle.text.specs.Stages.{Put}
use Rattle.text.proofs.Text.put_setting.Given as goal

abbrev pub invariant-loop-i : goal.invariant-loop-i
invariant-loop-i l =
    (l.self.len ≤ l.initial.self.len + 4 * (length l.setting - l.i)) × Put (setting_text (drop l.i l.setting)) l.initial.self l.self
