-- What private functions of this crate answer.
use Rattle.std.specs.Prelude.{ℕ, ◌+◌, List, ◌++◌, ◌≡◌, length, take}
use Rattle.text.specs.declared.Text.{Text}

-- the bytes that have been put
abbrev pub text_of : Text → List ℕ
text_of t = take t.len t.bytes

-- text put behind what there was
pub record Put (text : List ℕ) (before after : Text) : Type 0 where
  pub stands : text_of after ≡ text_of before ++ text
  pub ends : after.len ≡ before.len + length text
