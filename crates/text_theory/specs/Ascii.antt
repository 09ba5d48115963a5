-- Text as bytes: each character by its code. All text here is ASCII.
use Rattle.std.specs.Prelude.{ℕ, List, [], ◌∷◌}
use Prim.Native.Char.{code}
use Prim.Native.String.{String, [] as ε, ◌∷◌ as ◌then◌}

abbrev pub ascii : String → List ℕ
ascii ε = []
ascii (c then text) = code c ∷ ascii text
