-- Work steps counted as events: useful ones, appends, and the step formula at each append.
use Rattle.std.specs.Prelude.{ℕ, suc, ◌+◌, ◌≡◌, true, List, [], ◌∷◌, ◌++◌}
use Rattle.std.proofs.Common.{arith, ap, ◌∙◌, append_assoc}
use Rattle.gray_theory.specs.Radices.{all_from}
use Rattle.gray_theory.specs.Costs.{cost}
use Rattle.gray_theory.proofs.Bounds.{entry_costs_ruler, cost_below_double}
use Rattle.ahead_theory.specs.Work.{Work, carry, append, idle}
use Rattle.ahead_theory.specs.Events.{useful, appends}
use Rattle.ahead_theory.specs.Demand.{Finished}
use Rattle.ahead_theory.specs.Positions.{Worked, Worked.carried, Worked.appended, Worked.idled, Worked.spent}
use Rattle.ahead_theory.proofs.Positions.{steps_at, one}

-- ---- one event more
useful_more : (es : List Work) (e : Work) → useful (es ++ (e ∷ [])) ≡ useful es + useful (e ∷ [])
unfolding useful
useful_more [] e = omega arith
useful_more (carry ∷ es) e = let ih = useful_more es e in omega arith
useful_more (append ∷ es) e = let ih = useful_more es e in omega arith
useful_more (idle ∷ es) e = useful_more es e

appends_more : (es : List Work) (e : Work) → appends (es ++ (e ∷ [])) ≡ appends es + appends (e ∷ [])
unfolding appends
appends_more [] e = omega arith
appends_more (carry ∷ es) e = appends_more es e
appends_more (append ∷ es) e = let ih = appends_more es e in omega arith
appends_more (idle ∷ es) e = appends_more es e

-- each append among the events, with a appends and u useful steps before them, is the useful step that the step formula says
unfoldable Costed : List ℕ → ℕ → ℕ → List Work → Type 0
Costed ms a u [] = Unit
Costed ms a u (carry ∷ es) = Costed ms a (suc u) es
Costed ms a u (append ∷ es) = (suc u ≡ cost ms (suc a)) × Costed ms (suc a) (suc u) es
Costed ms a u (idle ∷ es) = Costed ms a u es

costed_more : (ms : List ℕ) (a u : ℕ) (es : List Work) (e : Work)
    → Costed ms a u es
    → Costed ms (a + appends es) (u + useful es) (e ∷ [])
    → Costed ms a u (es ++ (e ∷ []))
unfolding Costed useful appends
costed_more ms a u [] e c d =
    let x : a + 0 ≡ a = omega arith in
    let y : u + 0 ≡ u = omega arith in
    rw (x, y) at d
costed_more ms a u (carry ∷ es) e c d =
    let y : u + suc (useful es) ≡ suc u + useful es = omega arith in
    costed_more ms a (suc u) es e c (rw y at d)
costed_more ms a u (append ∷ es) e c d =
    let x : a + suc (appends es) ≡ suc a + appends es = omega arith in
    let y : u + suc (useful es) ≡ suc u + useful es = omega arith in
    (c.0, costed_more ms (suc a) (suc u) es e c.1 (rw (x, y) at d))
costed_more ms a u (idle ∷ es) e c d = costed_more ms a u es e c d

costed_at : (ms : List ℕ) (a u : ℕ) (before later : List Work)
    → Costed ms a u (before ++ append ∷ later)
    → suc (u + useful before) ≡ cost ms (suc (a + appends before))
unfolding Costed useful appends
costed_at ms a u [] later c =
    let x : a + 0 ≡ a = omega arith in
    let y : u + 0 ≡ u = omega arith in
    rw (x, y) c.0
costed_at ms a u (carry ∷ es) later c =
    let y : u + suc (useful es) ≡ suc u + useful es = omega arith in
    rw y (costed_at ms a (suc u) es later c)
costed_at ms a u (append ∷ es) later c =
    let x : a + suc (appends es) ≡ suc a + appends es = omega arith in
    let y : u + suc (useful es) ≡ suc u + useful es = omega arith in
    rw (x, y) (costed_at ms (suc a) (suc u) es later c.1)
costed_at ms a u (idle ∷ es) later c = costed_at ms a u es later c

-- ---- the events of a run
-- they fit the numbers that the run has come to, from a entries finished by u useful steps
pub record Tallied (ms : List ℕ) (a u t k p : ℕ) (es : List Work) : Type 0 where
  pub steps : u + useful es ≡ steps_at ms t k p
  pub entries : a + appends es ≡ t + k
  costs : Costed ms a u es

pub tally_start : (ms : List ℕ) (t k p : ℕ) → Tallied ms (t + k) (steps_at ms t k p) t k p []
unfolding Costed useful appends
tally_start ms t k p = record { steps = omega arith; entries = omega arith; costs = tt }

-- a step that appends nothing
tally_same : {ms : List ℕ} {a u t k p : ℕ} {es : List Work} (e : Work) (k' p' : ℕ)
    → useful (e ∷ []) + steps_at ms t k p ≡ steps_at ms t k' p'
    → appends (e ∷ []) + k ≡ k'
    → Costed ms (a + appends es) (u + useful es) (e ∷ [])
    → Tallied ms a u t k p es
    → Tallied ms a u t k' p' (es ++ (e ∷ []))
tally_same {ms} {a} {u} {t} {k} {p} {es} e k' p' more queued costs r =
    let um = useful_more es e in
    let am = appends_more es e in
    let s = r.steps in
    let n = r.entries in
    record { steps = omega arith; entries = omega arith; costs = costed_more ms a u es e r.costs costs }

tally_work : {ms : List ℕ} {c a u t k p : ℕ} {e : Work} {k' p' : ℕ} {es : List Work}
    → all_from 2 ms ≡ true
    → Worked ms c t k p e k' p'
    → Tallied ms a u t k p es
    → Tallied ms a u t k' p' (es ++ (e ∷ []))
unfolding Costed useful appends
tally_work {k = k} {p = p} two (carried h) r = tally_same carry k (suc p) (omega arith) (omega arith) tt r
tally_work {ms} {a = a} {u} {t} {k} {p} {es = es} two (appended h room more) r =
    let s = r.steps in
    let n = r.entries in
    let next = entry_costs_ruler ms (one ms two) (t + k) in
    let e : suc (t + k) ≡ t + suc k = omega arith in
    let same = ap (cost ms) e in
    let f : suc (a + appends es) ≡ suc (t + k) = omega arith in
    let here : suc (u + useful es) ≡ cost ms (suc (a + appends es)) = rw f (omega arith) in
    tally_same append (suc k) 0 (omega arith) (omega arith) (here, tt) r
tally_work {k = k} {p = p} two (idled h full) r = tally_same idle k p (omega arith) (omega arith) tt r
tally_work {k = k} {p = p} two (spent h) r = tally_same idle k p (omega arith) (omega arith) tt r

-- the two work steps of a call
pub tally_twice : {ms : List ℕ} {c a u t k p : ℕ} {e₁ e₂ : Work} {k₁ p₁ k₂ p₂ : ℕ} {es : List Work}
    → all_from 2 ms ≡ true
    → Worked ms c t k p e₁ k₁ p₁
    → Worked ms c t k₁ p₁ e₂ k₂ p₂
    → Tallied ms a u t k p es
    → Tallied ms a u t k₂ p₂ (es ++ (e₁ ∷ e₂ ∷ []))
tally_twice {ms} {t = t} {e₁ = e₁} {e₂} {k₂ = k₂} {p₂} {es} two w₁ w₂ r =
    rw (append_assoc es (e₁ ∷ []) (e₂ ∷ [])) at (tally_work two w₂ (tally_work two w₁ r))

-- a removal
pub tally_remove : {ms : List ℕ} {a u t k p : ℕ} {es : List Work} → Tallied ms a u t (suc k) p es → Tallied ms a u (suc t) k p es
tally_remove {ms} {t = t} {k} {p} r =
    let e : t + suc k ≡ suc t + k = omega arith in
    record { steps = r.steps ∙ ap (λ (j : ℕ). cost ms j + p) e; entries = r.entries ∙ e; costs = r.costs }

-- the step that appends an entry, in a run from the start
pub tally_finished : {ms : List ℕ} {a u t k p : ℕ} {es : List Work} (before later : List Work)
    → all_from 2 ms ≡ true
    → a ≡ 0
    → u ≡ 0
    → Tallied ms a u t k p es
    → es ≡ before ++ append ∷ later
    → Finished ms before
tally_finished {ms} {a} {u} {es = es} before later two none start r e =
    let z : u + useful before ≡ useful before = omega arith in
    let y : a + appends before ≡ appends before = omega arith in
    let f : suc (useful before) ≡ cost ms (suc (appends before)) =
    rw (z, y) at (costed_at ms a u before later (rw e at r.costs)) in
    let d = cost_below_double ms two (suc (appends before)) (omega arith) in
    record { formula = f; double = rw (← f) at d }
