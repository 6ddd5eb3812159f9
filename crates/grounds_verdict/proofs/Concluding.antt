-- Conclusions by each way out of the code.
--     conclusions-at    a literal's conclusion
--     mine              what the functions of `literals` leave to show
-- Assumes nothing.
use mathlib.Core.Bool.{Bool, true, false}
use mathlib.Core.List.{List, [], ◌∷◌, ◌++◌, append_assoc, append-nil}
use mathlib.Core.Path.{◌≡◌, refl, ap, sym, ◌∙◌}
use Prim.Native.Nat.{ℕ, zero, suc, ◌+◌, ◌-◌, ◌≤◌, ◌<◌}
use native.Mathlib.Numerals.{add-one}
use native.Mathlib.Omega.{arith}
use lib.Dec.{ltb, eqb}
use borrow.Author.Rules.{rules}
use borrow.Author.Tests.{eq-eqb, ne_eqb, ltb-true, ltb-false, eqb-true, eqb-false}
use lib.ListN.{length, get_or}
use Rattle.meaning.specs.Grounds.{Conclusion, conclusion_for, literal₀}
use Rattle.meaning.specs.Values.{number_at}
use Rattle.meaning.specs.Checking.{counts, differs_by_steps, concludes_by, concluded_by}
use Rattle.meaning.specs.GroundColumns.{conclusion_from, conclusions_from}
use Rattle.runs.specs.Limits.{most_literals}
use Rattle.runs.specs.Runs.{literal_count, sign_in, left_in, right_in, literal_in}
use Rattle.runs.proofs.Saying.{literals-at}
use Rattle.grounds_steps.specs.Steps.{steps_of}
use Rattle.grounds_steps.proofs.Saying.{steps-length}
use Rattle.grounds_numbers.specs.Pairs.{pair_count, first_in, second_in, pairs_in}
use Rattle.grounds_numbers.proofs.Pairing.{pairs-length, pairs-at}
use Rattle.grounds_verdict.specs.Tests.{instances_in, cited_at, differs_at, concluded_in, concluded_at}
use Rattle.grounds_verdict.specs.declared.Conclusions.{Conclusions}
use Rattle.grounds_verdict.proofs.Numbers.{counted}
use Rattle.grounds_verdict.proofs.Owning.{literal-equal, literal-unequal}

-- ---- conclusions by their places

-- the conclusion for a literal after some for others
conclusion-past : (fs ds : List ℕ) (n x : ℕ) (rest : List Conclusion) → n ≤ x → conclusion_for (suc x) (conclusions_from fs ds n ++ rest) ≡ conclusion_for (suc x) rest
unfolding conclusions_from conclusion_for conclusion_from
conclusion-past fs ds zero x rest h = refl
conclusion-past fs ds (suc n) x rest h =
    ap (conclusion_for (suc x)) (append_assoc (conclusions_from fs ds n) (conclusion_from fs ds n ∷ []) rest)
    ∙ conclusion-past fs ds n x (conclusion_from fs ds n ∷ rest) (omega arith)
    ∙ skip
  where
    skip : conclusion_for (suc x) (conclusion_from fs ds n ∷ rest) ≡ conclusion_for (suc x) rest
    skip = rw (ne_eqb (suc n) (suc x) (λ e. omega arith), conclusion_for)

pub conclusions-at : (fs ds : List ℕ) (n j : ℕ) (rest : List Conclusion) → j < n
    → conclusion_for (suc j) (conclusions_from fs ds n ++ rest) ≡ conclusion_from fs ds j
unfolding conclusions_from conclusion_for conclusion_from
conclusions-at fs ds zero j rest h = absurd (omega arith)
conclusions-at fs ds (suc n) j rest h =
    ap (conclusion_for (suc j)) (append_assoc (conclusions_from fs ds n) (conclusion_from fs ds n ∷ []) rest) ∙ go (ltb j n) refl (conclusions-at fs ds n j (conclusion_from fs ds n ∷ rest))
  where
    go : (b : Bool) → ltb j n ≡ b
        → (j < n → conclusion_for (suc j) (conclusions_from fs ds n ++ (conclusion_from fs ds n ∷ rest)) ≡ conclusion_from fs ds j)
        → conclusion_for (suc j) (conclusions_from fs ds n ++ (conclusion_from fs ds n ∷ rest)) ≡ conclusion_from fs ds j
    go true e ih = ih (ltb-true j n e)
    go false e ih =
        let z : j ≡ n = omega (arith, ltb-false j n e) in
        rw z (conclusion-past fs ds n n (conclusion_from fs ds n ∷ rest) (omega arith) ∙ here)
      where
        here : conclusion_for (suc n) (conclusion_from fs ds n ∷ rest) ≡ conclusion_from fs ds n
        here = rw (eq-eqb (suc n) (suc n) refl, conclusion_for)

concluded-for : (d : Conclusions) (j : ℕ) → j < most_literals → conclusion_for (suc j) (concluded_in d) ≡ conclusion_from d.firsts d.differences j
concluded-for d j h =
    ap (conclusion_for (suc j)) (sym (append-nil (concluded_in d))) ∙ conclusions-at d.firsts d.differences most_literals j [] h

-- ---- a stated difference

module _ (pairs ns : List ℕ) (n : ℕ) (steps : List (List ℕ)) (o x d c : ℕ) (ec : c ≡ pair_count pairs) where
  pub differs-none : counts c d ≡ false → false ≡ differs_at pairs ns n steps o x d
  unfolding differs_by_steps
  differs-none e = rw (pairs-length pairs, ← ec, e)

  pub differs-cited : (b : Bool) (place p q : ℕ) → (d ≡ place + 1) × (place < c) → p ≡ first_in pairs place → q ≡ second_in pairs place
      → b ≡ cited_at ns n steps (length steps) o x p q
      → b ≡ differs_at pairs ns n steps o x d
  unfolding differs_by_steps
  differs-cited b place p q h ep eq e =
      let before : d - 1 ≡ place = omega arith in
      rw (
        pairs-length pairs,
        ← ec,
        counted c d place h,
        before,
        steps-length steps,
        ap (λ (z : ℕ × ℕ). z.0) (pairs-at pairs place (omega arith)),
        ap (λ (z : ℕ × ℕ). z.1) (pairs-at pairs place (omega arith)),
        ← ep,
        ← eq,
      )
      e

-- ---- a literal and its conclusion

module _ (literals : List ℕ) (d : Conclusions) (pairs ns : List ℕ) (n : ℕ) (steps : List (List ℕ)) (j : ℕ) (inside : j < literal_count literals)
    (few : literal_count literals ≤ most_literals) (x : ℕ) (ex : x ≡ get_or d.firsts j 0) (s : Bool) (es : s ≡ eqb (sign_in literals j) 6) where
  concluded-at : concluded_at literals d pairs ns n steps j
      ≡ concludes_by ns n (instances_in ns n) (pairs_in pairs) (steps_of steps) (suc j) (record { literal = suc j; first = x; difference = get_or d.differences j 0 }) (literal_in literals j)
  unfolding concluded_by conclusion_from
  concluded-at = rw (concluded-for d j (omega arith), literals-at literals j literal₀ inside, ex)

  pub concluded-equal : (b : Bool) (p q l r : ℕ) → s ≡ true → p ≡ left_in literals j → q ≡ right_in literals j → l ≡ number_at ns (n + p) → r ≡ number_at ns (n + q)
      → b ≡ cited_at ns n steps (length steps) 0 x l r
      → b ≡ concluded_at literals d pairs ns n steps j
  unfolding concludes_by
  concluded-equal b p q l r e ep eq el er f =
      sym (concluded-at ∙ rw (literal-equal literals j (eqb-true (sign_in literals j) 6 (sym es ∙ e)), steps-length steps, ← ep, ← eq, ← el, ← er) (sym f))

  pub concluded-unequal : (b : Bool) (z : ℕ) → s ≡ false → z ≡ get_or d.differences j 0 → b ≡ differs_at pairs ns n steps (j + 1) x z
      → b ≡ concluded_at literals d pairs ns n steps j
  unfolding concludes_by
  concluded-unequal b z e ez f =
      sym (concluded-at ∙ rw (literal-unequal literals j (eqb-false (sign_in literals j) 6 (sym es ∙ e)), ← ez, ← add-one j) (sym f))

pub ruleset mine = (rules, differs-none, differs-cited, concluded-equal, concluded-unequal)
