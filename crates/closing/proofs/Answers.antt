-- The contracts of the public functions determine their answers.
--     closes-one, clash-one, apart-one   two answers of `close`, of `clash` or of `apart` that meet one contract are equal
--     closes-fit                         fit columns are closed
--     clash-small                        a clash's number is below the number of statements
-- Assumes nothing.
use mathlib.Core.Bool.{Bool, true, false}
use mathlib.Core.List.{List, [], ◌∷◌}
use mathlib.Core.Path.{◌≡◌, refl, ap, ap₂, sym, ◌∙◌}
use Prim.Native.Nat.{ℕ, zero, suc, ◌+◌, ◌≤◌, ◌<◌}
use native.Mathlib.Omega.{arith}
use lib.Dec.{eqb}
use lib.ListN.{length, length-append}
use lib.Seq.{ext_get_or}
use Rattle.meaning.specs.Context.{differences_of}
use Rattle.meaning.specs.Equality.{Promise}
use Rattle.meaning.specs.ByTable.{Clashing, first, clash_from, clash_of}
use Rattle.meaning.specs.Columns.{statements_from, context_from}
use Rattle.meaning.proofs.Promised.{promise-one}
use Rattle.closing.specs.declared.Answer.{Answer}
use Rattle.closing.specs.declared.Answer.TheVariants.{Closed, Unfit}
use Rattle.closing.specs.declared.Classes.{Classes}
use Rattle.std.specs.Prelude.{Option, Some, None}
use Rattle.columns.specs.Fit.{FitContext}
use Rattle.closing.specs.Claims.{Own, Closes, clashing}
use Rattle.closing.proofs.Pairs.{pair_at, kept, pairs_from, is_difference, differences-are}

own-one : (t u : List ℕ) → Own t → Own u → t ≡ u
own-one t u o p = ext_get_or 0 t u (o.long ∙ sym p.long) (λ i h. o.own i (omega (arith, o.long)) ∙ sym (p.own i (omega (arith, o.long))))

module _ (symbols counts args : List ℕ) (n : ℕ) (kinds lefts rights : List ℕ) (m : ℕ) where
  same_parts : (a b : Answer) (t u : List ℕ) → Closes symbols counts args n kinds lefts rights m a t → Closes symbols counts args n kinds lefts rights m b u → (a ≡ b) × (t ≡ u)
  same_parts Closed Closed t u p q = (refl, promise-one (context_from symbols counts args n kinds lefts rights m) 255 t u p.1 q.1)
  same_parts Closed Unfit t u p q = absurd (q.0 p.0)
  same_parts Unfit Closed t u p q = absurd (p.0 q.0)
  same_parts Unfit Unfit t u p q = (refl, own-one t u p.1 q.1)

  pub closes-one : (r s : Classes) → Closes symbols counts args n kinds lefts rights m r.answer r.table
      → Closes symbols counts args n kinds lefts rights m s.answer s.table → r ≡ s
  closes-one r s p q =
      let w : (r.answer ≡ s.answer) × (r.table ≡ s.table) = same_parts r.answer s.answer r.table s.table p q in
      ap₂ (λ (a : Answer) (t : List ℕ). record { answer = a; table = t }) w.0 w.1

  pub closes-fit : (a : Answer) (t : List ℕ) → FitContext symbols counts args n kinds lefts rights m → Closes symbols counts args n kinds lefts rights m a t
      → (a ≡ Closed) × Promise (context_from symbols counts args n kinds lefts rights m) 255 t
  closes-fit Closed t f p = (refl, p.1)
  closes-fit Unfit t f p = absurd (p.0 f)

pub clash-one : (r s : Option ℕ) (x : Clashing) → clashing r ≡ x → clashing s ≡ x → r ≡ s
clash-one (Some n) (Some k) x p q = cc
clash-one (Some n) None x p q = absurd (let z : ◌≡◌ {A = ℕ} 0 1 = cc in omega arith)
clash-one None (Some k) x p q = absurd (let z : ◌≡◌ {A = ℕ} 0 1 = cc in omega arith)
clash-one None None x p q = refl

pub apart-one : (r s x : Bool) → r ≡ x → s ≡ x → r ≡ s
apart-one r s x p q = p ∙ sym q

-- ---- how high a clash's number is

from-small : (rep : ℕ → ℕ) (i n : ℕ) (ds : List (ℕ × ℕ)) → clash_from rep i ds ≡ first n → n < i + length ds
unfolding clash_from
from-small rep i n [] e = absurd (let z : ◌≡◌ {A = ℕ} 0 1 = cc in omega arith)
from-small rep i n (d ∷ ds) e = go (eqb (rep d.0) (rep d.1)) refl (from-small rep (suc i) n ds)
  where
    go : (b : Bool) → eqb (rep d.0) (rep d.1) ≡ b → (clash_from rep (suc i) ds ≡ first n → n < suc i + length ds) → n < i + suc (length ds)
    go true q ih = let y : first i ≡ first n = sym (rw (q, clash_from)) ∙ e in let z : i ≡ n = cc in omega arith
    go false q ih = omega (arith, ih (sym (rw (q, clash_from)) ∙ e))

few-pairs : (keep : ℕ → Bool) (lefts rights : List ℕ) (m : ℕ) → length (pairs_from keep lefts rights m) ≤ m
unfolding pairs_from
few-pairs keep lefts rights zero = omega arith
few-pairs keep lefts rights (suc m) =
    omega (arith, few-pairs keep lefts rights m, length-append (pairs_from keep lefts rights m) (kept (keep m) (pair_at lefts rights m)), one (keep m))
  where
    one : (b : Bool) → length (kept b (pair_at lefts rights m)) ≤ 1
    one true = omega arith
    one false = omega arith

pub clash-small : (rep : ℕ → ℕ) (kinds lefts rights : List ℕ) (m n : ℕ) → clash_of rep (differences_of (statements_from kinds lefts rights m)) ≡ first n → n < m
unfolding clash_of
clash-small rep kinds lefts rights m n e =
    omega (arith, from-small rep 0 n (differences_of (statements_from kinds lefts rights m)) e, ap length (differences-are kinds lefts rights m), few-pairs (is_difference kinds) lefts rights m)
