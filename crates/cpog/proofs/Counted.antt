-- What a loop that writes the counted arcs row by row has done so far. Assumes nothing.
use Rattle.std.proofs.Common.{◌≡◌, ℕ, ◌+◌, ◌<◌, ◌≤◌, Bool, true, false, ◌&&◌, ltb, ◌⊎◌, sym, subst, inl, inr, arith}
use Rattle.std.proofs.lemmas.Bool.{cases_Bool, cases_eq}
use Rattle.std.proofs.lemmas.Bool.Decides.{nat_tests}
use Rattle.sets.specs.Rows.{replaced}
use Rattle.cpog.specs.Graphs.{Conditions, Lawful, counted}

abbrev Rel : Type 0
Rel = ℕ → ℕ → Bool

-- the rows below i have their counted arcs, and the others are empty
abbrev pub RowsBelow : Conditions → ℕ → ℕ → Rel → Type 0
RowsBelow g o i rows = (e f : ℕ) → rows e f ≡ (ltb f i && counted g o e f)

pub rows_none : (g : Conditions) (o : ℕ) (rows : Rel) → ((e f : ℕ) → rows e f ≡ false) → RowsBelow g o 0 rows
rows_none g o rows empty e f = let z = empty e f in grind (arith, nat_tests)

-- an absent event has no counted arc to it
pub rows_skip : (g : Conditions) (o i : ℕ) (rows : Rel) → RowsBelow g o i rows → g.has i o ≡ false → RowsBelow g o (i + 1) rows
rows_skip g o i rows B absent e f = go (cases_eq f i)
  where
    at : rows e i ≡ (ltb i (i + 1) && counted g o e i)
    at = let b = B e i in grind (arith, nat_tests)

    go : (f ≡ i) ⊎ (f ≡ i → ⊥) → rows e f ≡ (ltb f (i + 1) && counted g o e f)
    go (inl q) = subst (λ (k : ℕ). rows e k ≡ (ltb k (i + 1) && counted g o e k)) (sym q) at
    go (inr d) = let b = B e f in grind (arith, nat_tests)

pub rows_add : (g : Conditions) (o i : ℕ) (rows next : Rel) (row : ℕ → Bool) → i < 32 → RowsBelow g o i rows → g.has i o ≡ true
    → ((e f : ℕ) → next e f ≡ replaced rows i row e f) → ((e : ℕ) → row e ≡ (g.has e o && g.arc e i o)) → RowsBelow g o (i + 1) next
rows_add g o i rows next row small B here N R e f = go (cases_eq f i)
  where
    at : next e i ≡ (ltb i (i + 1) && counted g o e i)
    at = let n = N e i in let r = R e in grind (arith, nat_tests)

    go : (f ≡ i) ⊎ (f ≡ i → ⊥) → next e f ≡ (ltb f (i + 1) && counted g o e f)
    go (inl q) = subst (λ (k : ℕ). next e k ≡ (ltb k (i + 1) && counted g o e k)) (sym q) at
    go (inr d) = let n = N e f in let b = B e f in grind (arith, nat_tests)

pub rows_all : (g : Conditions) (o i : ℕ) (rows : Rel) → Lawful g → g.events ≤ i → RowsBelow g o i rows → (e f : ℕ) → rows e f ≡ counted g o e f
rows_all g o i rows L far B e f = let b = B e f in elim (cases_Bool (g.has f o)) [
  | inl t ↦ let h = (L.has_inside f o t).0 in grind (arith, nat_tests)
  | inr n ↦ grind (arith, nat_tests)
]
