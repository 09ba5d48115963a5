-- The two listers list the list: the upward one as it stands, the downward one backward.
use Rattle.std.specs.Prelude.{ℕ, ◌≡◌, refl, Bool, true, false, cond, not, length}
use Rattle.std.proofs.Common.{sym, ap, ◌∙◌}
use mathlib.Core.List.{List, [], ◌∷◌, ◌++◌, map, reverse, map-append, reverse-cons, reverse-append, reverse-reverse}
use Rattle.std.proofs.lemmas.List.{length-map, length-reverse}
use Rattle.gray_theory.proofs.Members.{list_has_size}
use Rattle.gray_theory.specs.Radices.{digits, bytes, size}
use Rattle.gray_theory.proofs.Reversals.{size-reverse}
use Rattle.gray_theory.specs.Words.{even, upward, downward, list}
use Rattle.lister_theory.specs.Listers.{blocks, listing}
use Rattle.lister_theory.proofs.Reversing.{reverse-upward, ending, stacks, reverse-stacks, list_slower}

-- what stands last in a word stands first in its bytes
bytes-ending : (a : ℕ) (words : List (List ℕ)) → map bytes (ending a words) ≡ map (λ w. a ∷ w) (map bytes words)
bytes-ending a [] = refl
bytes-ending a (w ∷ words) =
    ap (λ v. v ∷ map bytes (ending a words)) (reverse-append w (a ∷ []))
    ∙ ap (λ l. (a ∷ bytes w) ∷ l) (bytes-ending a words)

blocks_of_bytes : (same other : List (List ℕ)) (ns : List ℕ)
    → blocks (map bytes same) (map bytes other) ns ≡ map bytes (stacks same other ns)
unfolding blocks stacks
blocks_of_bytes same other [] = refl
blocks_of_bytes same other (a ∷ ns) =
    ap (λ l. l ++ blocks (map bytes same) (map bytes other) ns) (go (even a))
    ∙ ap (λ l. map bytes (ending a (cond (even a) same other)) ++ l) (blocks_of_bytes same other ns)
    ∙ sym (map-append bytes (ending a (cond (even a) same other)) (stacks same other ns))
  where
    go : (b : Bool) → map (λ w. a ∷ w) (cond b (map bytes same) (map bytes other)) ≡ map bytes (ending a (cond b same other))
    go true = sym (bytes-ending a same)
    go false = sym (bytes-ending a other)

-- the list, or the list backward
abbrev listed : Bool → List (List ℕ) → List (List ℕ)
listed down words = cond down (reverse words) words

stacks_of_list : (down : Bool) (ms : List ℕ) (m : ℕ)
    → stacks (listed down (list ms)) (listed (not down) (list ms)) (cond down (downward m) (upward m))
    ≡ listed down (list (ms ++ (m ∷ [])))
stacks_of_list true ms m =
    ap (λ l. stacks (reverse (list ms)) l (downward m)) (sym (reverse-reverse (list ms)))
    ∙ ap (stacks (reverse (list ms)) (reverse (reverse (list ms)))) (sym (reverse-upward m))
    ∙ sym (reverse-stacks (list ms) (reverse (list ms)) (upward m))
    ∙ ap reverse (sym (list_slower ms m))
stacks_of_list false ms m = sym (list_slower ms m)

listing_is_listed : (down : Bool) (radices : List ℕ) → listing down radices ≡ map bytes (listed down (list (digits radices)))
unfolding listing list
listing_is_listed true [] = refl
listing_is_listed false [] = refl
listing_is_listed down (m ∷ ms) =
    let notches = cond down (downward m) (upward m) in
    let words = list (digits ms) in
    ap (λ l. blocks l (listing (not down) ms) notches) (listing_is_listed down ms)
    ∙ ap (λ l. blocks (map bytes (listed down words)) l notches) (listing_is_listed (not down) ms)
    ∙ blocks_of_bytes (listed down words) (listed (not down) words) notches
    ∙ ap (map bytes) (stacks_of_list down (digits ms) m)
    ∙ ap (λ l. map bytes (listed down (list l))) (sym (reverse-cons m ms))

-- the upward lister's words, as bytes, are the settings of the list from first to last
pub upward_lister_lists_the_list : (radices : List ℕ) → listing false radices ≡ map bytes (list (digits radices))
upward_lister_lists_the_list radices = listing_is_listed false radices

-- the downward lister's are the same settings from last to first
pub downward_lister_lists_it_backward : (radices : List ℕ) → listing true radices ≡ map bytes (reverse (list (digits radices)))
downward_lister_lists_it_backward radices = listing_is_listed true radices

-- either lists as many words as the radices have settings
pub length-listing : (down : Bool) (ms : List ℕ) → length (listing down ms) ≡ size ms
length-listing down ms =
    ap length (listing_is_listed down ms)
    ∙ length-map (listed down (list (digits ms))) bytes
    ∙ go down
    ∙ list_has_size (digits ms)
    ∙ size-reverse ms
  where
    go : (b : Bool) → length (listed b (list (digits ms))) ≡ length (list (digits ms))
    go true = length-reverse (list (digits ms))
    go false = refl
