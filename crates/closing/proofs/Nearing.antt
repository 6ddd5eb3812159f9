-- Merges that follow a merge: what has to hold of the table goes on to hold, and its sum does not rise.
--     nearer-none, nearer-then     no merge; one after another
--     Meeting                      rows that met so far
-- Assumes nothing.
use mathlib.Core.List.{List}
use mathlib.Core.Path.{◌≡◌, refl, subst}
use mathlib.Core.Logic.{inl, inr, ⊎_elim}
use Prim.Native.Nat.{ℕ, suc, ◌<◌}
use native.Mathlib.Omega.{arith}
use lib.ListN.{length}
use Rattle.meaning.specs.Context.{Row}
use Rattle.meaning.specs.Equality.{rep_at}
use Rattle.meaning.specs.Formed.{Ordered}
use Rattle.meaning.specs.Columns.{rows_from}
use Rattle.meaning.specs.Closing.{unite}
use Rattle.meaning.proofs.Closes.{agree-equal}
use Rattle.meaning.proofs.Built.{length-rows}
use Rattle.std.specs.Prelude.{Option, Some}
use Rattle.closing.specs.Steps.{Laid, one_more, Found, Kept, Outcome, Nearer}
use Rattle.closing.proofs.Merges.{outcome-none, outcome-then, unite-outcome}
use Rattle.closing.proofs.Chains.{SameAt, agree-true}

pub nearer-none : (rows : List Row) (l : List ℕ) → Nearer rows l l
nearer-none rows l = record { outcome = λ eqs ordered kept. outcome-none rows eqs kept tt }

pub nearer-then : {rows : List Row} {l m o : List ℕ} → Nearer rows l m → Nearer rows m o → Nearer rows l o
nearer-then {rows} {l} {m} {o} a b =
    record { outcome = λ eqs ordered kept. outcome-then rows eqs (a.outcome eqs ordered kept) (b.outcome eqs ordered (a.outcome eqs ordered kept).kept) (λ e p q. tt) }

-- ---- a row that is found
pub found-some : {rows : List Row} {l : List ℕ} {n i j : ℕ} {o : Option ℕ} → Found rows l n i (one_more o) → o ≡ Some j → Found rows l n i (suc j)
found-some {rows} {l} {n} {i} {j} {o} f e = subst (λ x. Found rows l n i (one_more x)) e f

module _ (symbols counts args : List ℕ) (n i j : ℕ) (l m : List ℕ) (laid : Laid counts args n) (hi : i < n) (found : Found (rows_from symbols counts args n) l n i (suc j)) where
  pub nearer-unite : m ≡ unite i j l → Nearer (rows_from symbols counts args n) l m
  nearer-unite e = record { outcome = λ eqs ordered kept. rw e (one eqs ordered kept) }
    where
      R : List Row
      R = rows_from symbols counts args n

      same : SameAt R l i j
      same = agree-true R l i j (found.agrees j refl)

      one : (eqs : List (ℕ × ℕ)) → Ordered R → Kept R eqs l → Outcome R eqs (Unit {0}) l (unite i j l)
      one eqs ordered kept =
          let long : length R ≡ n = length-rows symbols counts args n in
          let a : i < length R = omega arith in
          let b : j < length R = omega (arith, found.bound) in
          let o : Outcome R eqs (rep_at l i ≡ rep_at l j) l (unite i j l) =
          unite-outcome R eqs l (omega (arith, laid.room)) kept i j a b (agree-equal R eqs ordered (rep_at l) kept.so i j a b same.0 same.1) in
          record { kept = o.kept; grown = o.grown; did = ⊎_elim (λ d. inl (d.0, tt)) (λ d. inr d) o.did }

-- ---- the rows that met so far
pub record Meeting (symbols counts args : List ℕ) (n : ℕ) (l t : List ℕ) : Type 0 where
  pub laid : Laid counts args n
  pub so : Nearer (rows_from symbols counts args n) l t

pub meeting-start : (symbols counts args : List ℕ) (n : ℕ) (l : List ℕ) → Laid counts args n → Meeting symbols counts args n l l
meeting-start symbols counts args n l laid = record { laid = laid; so = nearer-none _ l }

pub meeting-next : {symbols counts args : List ℕ} {n : ℕ} {l t u : List ℕ} → Meeting symbols counts args n l t → Nearer (rows_from symbols counts args n) t u → Meeting symbols counts args n l u
meeting-next d s = record { laid = d.laid; so = nearer-then d.so s }
