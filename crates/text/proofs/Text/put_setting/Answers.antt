-- `text::Text::put_setting` meets its contract: with i notches left, those from i on are put. Assumes nothing.
use Prim.Native.Nat.{◌+◌, ◌-◌}
use mathlib.Core.Path.{◌≡◌, ap}
use native.Mathlib.Omega.{arith}
use lib.ListN.{drop}
use Rattle.text_theory.specs.Lines.{setting_text}
use Rattle.text.proofs.Putting.{same_text, setting-begun, notch_put}
use Rattle.text.proofs.Text.put_setting.Goals as goal

pub loop-i-init : goal.loop-i-init
loop-i-init c = (omega arith, setting-begun c.args.setting.now c.args.self.now)

pub loop-i-preserved : goal.loop-i-preserved
loop-i-preserved c =
    let setting = c.args.setting.now in
    let put = c.put_notch.ensures in
    let i = c.loop-i.i in
    let next : i ≡ i - 1 + 1 = omega arith in (
      omega (arith, put.upper_bound),
      notch_put (i - 1) setting (omega arith)
          (same_text (ap (λ k. setting_text (drop k setting)) next) c.loop-i.invariant.1) put.put,
    )
