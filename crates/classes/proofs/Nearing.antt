-- Merges that follow a merge: what has to hold of the table goes on to hold, and its sum does not rise.
--     nearer-none, nearer-then     no merge; one after another
--     Meeting                      rows that met so far
--     mine                         what the functions of `wake` leave to show
-- Assumes nothing.
use mathlib.Core.Bool.{Bool, true}
use mathlib.Core.List.{List}
use mathlib.Core.Path.{◌≡◌, refl, sym, ◌∙◌, subst}
use mathlib.Core.Logic.{inl, inr, ⊎_elim}
use Prim.Native.Nat.{ℕ, ◌<◌}
use native.Mathlib.Omega.{arith}
use lib.ListN.{length}
use borrow.Author.Rules.{rules}
use Rattle.std.specs.Prelude.{Option, Some, None, IfSome}
use Rattle.meaning.specs.Context.{Row}
use Rattle.meaning.specs.Equality.{rep_at}
use Rattle.meaning.specs.Formed.{Ordered}
use Rattle.meaning.specs.Closing.{agree}
use Rattle.meaning.proofs.Closes.{agree-equal}
use Rattle.runs.specs.Runs.{row_count, rows_of}
use Rattle.runs.proofs.Saying.{length-rows}
use Rattle.classes.specs.Steps.{most_args, merge, Laid, Found, Kept, Outcome, Nearer}
use Rattle.classes.proofs.Merges.{outcome-none, outcome-then, merge-outcome}
use Rattle.classes.proofs.Rows.{seated-own}
use Rattle.classes.proofs.Chains.{SameAt, agree-true}

pub nearer-none : (rows : List Row) (l : List ℕ) → Nearer rows l l
nearer-none rows l = record { outcome = λ eqs ordered kept. outcome-none rows eqs kept tt }

pub nearer-then : {rows : List Row} {l m o : List ℕ} → Nearer rows l m → Nearer rows m o → Nearer rows l o
nearer-then {rows} {l} {m} {o} a b =
    record { outcome = λ eqs ordered kept. outcome-then rows eqs (a.outcome eqs ordered kept) (b.outcome eqs ordered (a.outcome eqs ordered kept).kept) (λ e p q. tt) }

-- ---- a row that is found
pub found_none : (rows : List Row) (l : List ℕ) (n i : ℕ) → Found rows l n i None
found_none rows l n i =
    let never : (p : ℕ) → ◌≡◌ {A = Option ℕ} None (Some p) → ⊥ = λ p e. let z : ◌≡◌ {A = ℕ} 0 1 = cc in omega arith in
    record { bound = λ p e. absurd (never p e); agrees = λ p e. absurd (never p e) }

pub found-one : (rows : List Row) (l : List ℕ) (n i j m : ℕ) (r : Bool) → m ≡ n → j < m → r ≡ agree rows l i j → r ≡ true → Found rows l n i (Some j)
found-one rows l n i j m r em h e t =
    record { bound = λ p q. let z : j ≡ p = cc in omega arith; agrees = λ p q. let z : j ≡ p = cc in subst (λ (x : ℕ). agree rows l i x ≡ true) z (sym e ∙ t) }

module _ (run : List ℕ) (i j : ℕ) (at : Option ℕ) (l m : List ℕ) (hi : i < row_count run) (found : Found (rows_of run) l (row_count run) i at) (so : at ≡ Some j) where
  pub nearer-merge : m ≡ merge i j l → Nearer (rows_of run) l m
  nearer-merge e = record { outcome = λ eqs ordered kept. rw e (one eqs ordered kept) }
    where
      R : List Row
      R = rows_of run

      same : SameAt R l i j
      same = agree-true R l i j (found.agrees j so)

      one : (eqs : List (ℕ × ℕ)) → Ordered R → Kept R eqs l → Outcome R eqs (Unit {0}) l (merge i j l)
      one eqs ordered kept =
          let long : length R ≡ row_count run = length-rows run in
          let a : i < length R = omega arith in
          let b : j < length R = omega (arith, found.bound j so) in
          let o : Outcome R eqs (rep_at l i ≡ rep_at l j) l (merge i j l) =
          merge-outcome R eqs l kept i j a b (agree-equal R eqs ordered (rep_at l) kept.so i j a b same.0 same.1) in
          record { kept = o.kept; grown = o.grown; did = ⊎_elim (λ d. inl (d.0, tt)) (λ d. inr d) o.did }

-- ---- a place that a link leads to
pub place-inside : {at : Option ℕ} {p : ℕ} → IfSome at (λ q. q < most_args) → at ≡ Some p → p < most_args
place-inside {at} {p} h e = subst (λ (o : Option ℕ). IfSome o (λ q. q < most_args)) e h

-- ---- the rows that met so far
pub record Meeting (run l t : List ℕ) : Type 0 where
  pub laid : Laid run
  pub so : Nearer (rows_of run) l t
  pub stays : length t ≡ length l

pub meeting-start : (run l : List ℕ) → Laid run → Meeting run l l
meeting-start run l laid = record { laid = laid; so = nearer-none _ l; stays = refl }

pub meeting-next : {run l t u : List ℕ} → Meeting run l t → Nearer (rows_of run) t u → length u ≡ length t → Meeting run l u
meeting-next d s z = record { laid = d.laid; so = nearer-then d.so s; stays = z ∙ d.stays }

pub ruleset mine = (rules, nearer-none, nearer-then, found_none, found-one, nearer-merge, place-inside, meeting-start, meeting-next, seated-own)
