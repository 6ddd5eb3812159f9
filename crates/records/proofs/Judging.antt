-- The ways out of the finder over a context and a rule in runs.
--     over-rule, over-context             where one of the two is not well-formed
--     over-low, over-ready                what is asked of a clash, and by the search
--     over-refused, over-found            the refusal, and the first breach or none
-- Assumes nothing.
use mathlib.Core.Bool.{Bool, true, false, not}
use mathlib.Core.List.{List, [], ◌∷◌}
use mathlib.Core.Path.{◌≡◌, refl, sym, ap, subst, ◌∙◌}
use Prim.Native.Nat.{ℕ, zero, suc}
use native.Mathlib.Omega.{arith}
use native.Mathlib.Numerals.{add-one}
use borrow.Author.Rules.{rules}
use borrow.Author.Tests.{not-true, not-false}
use lib.ListN.{length}
use Rattle.meaning.specs.Context.{Context, differences_of}
use Rattle.meaning.specs.Equality.{rep_at, Promise}
use Rattle.meaning.specs.Rules.{Literal, Clause, Found, found, nothing}
use Rattle.meaning.specs.Formed.{Formed}
use Rattle.meaning.specs.ByTable.{Clashing, clash_of}
use Rattle.meaning.specs.Replies as M
use Rattle.meaning.specs.Replies.{breach, none, refused, refusal, reply_of, places_of, Judged}
use Rattle.meaning.proofs.Computed.{verdict}
use Rattle.meaning.proofs.Answered.{verdict-judged}
use Rattle.runs.specs.Fit.{Decides, FitContext, FitClause}
use Rattle.runs.specs.Limits.{most_rows, most_statements}
use Rattle.runs.specs.Runs.{literal_count, statements_of, context_of, clause_of}
use Rattle.runs.proofs.Deciding.{decides_not}
use Rattle.runs.proofs.Saying.{length-rows, length-patterns, length-literals}
use Rattle.replies.specs.declared.Refusal.{Refusal}
use Rattle.replies.specs.Told.{meant}
use Rattle.classes.specs.Claims.{Closes, clashing}
use Rattle.classes.specs.declared.Answer.{Answer as Closing}
use Rattle.classes.specs.declared.Answer.TheVariants as C
use Rattle.classes.specs.declared.Classes.{Classes}
use Rattle.std.specs.Prelude.{Option, Some, None, Result, Ok, Err}
use Rattle.classes.proofs.Answers.{clash-small}
use Rattle.search.specs.Hunting.{answer_of}
use Rattle.search.specs.Finding.{found_by}
use Rattle.search.specs.declared.Reply.{Reply as Searched}
use Rattle.hunting.specs.Laid.{Ready}
use Rattle.ruling.specs.Order.{Low, judged_by}
use Rattle.finder.specs.Claims.{refused_with, answered_with}
use Rattle.replies.specs.declared.Reply.{Reply}
use Rattle.records.specs.Claims.{judged, unfit, FindsRuns}

-- ---- the parts

-- the refusal, or what was found
abbrev ruling : Result (Unit {0}) Refusal → Found → M.Reply
ruling (Err x) f = refused (meant x)
ruling (Ok u) f = reply_of f

ruling-verdict : (ls : List Literal) (m : ℕ) → length ls ≡ m → (x : Option ℕ) (f : Found) → verdict ls (clashing x) f ≡ ruling (judged_by m x) f
unfolding verdict
ruling-verdict [] zero e (Some n) f = refl
ruling-verdict [] zero e None f = refl
ruling-verdict [] (suc m) e x f = absurd (omega arith)
ruling-verdict (l ∷ ls) zero e x f = absurd (omega arith)
ruling-verdict (l ∷ ls) (suc m) e (Some n) f = ap (λ (i : ℕ). refused (refusal 9 i)) (sym (add-one n))
ruling-verdict (l ∷ ls) (suc m) e None f = refl

module _ (rows said patterns literals : List ℕ) where
  abbrev c : Context
  c = context_of rows said

  abbrev k : Clause
  k = clause_of patterns literals

  abbrev Fits : Type 0
  Fits = FitContext most_rows most_statements rows said

  abbrev Finds : Option Reply → Type 0
  Finds r = FindsRuns rows said patterns literals r

  module _ (f : Fits) (r : FitClause patterns literals) where
    formed : Formed c k
    formed = record { fit = f.fit; placed = r.placed; named = rw (length-patterns patterns) r.named }

    module _ (t : List ℕ) (promise : Promise c most_rows t) (x : Option ℕ) (clash : clashing x ≡ clash_of (rep_at t) (differences_of (statements_of said)))
        (n : ℕ) (counted : n ≡ literal_count literals) where
      judges-ruling : Judged c k (ruling (judged_by n x) (found_by c t k))
      judges-ruling =
          subst (Judged c k)
          (ap (λ (y : Clashing). verdict k.literals y (found_by c t k)) (sym clash) ∙ ruling-verdict k.literals n (length-literals literals ∙ sym counted) x (found_by c t k))
          (verdict-judged c k formed (rep_at t) promise.rows 65536 (omega (arith, length-rows rows, f.rows_few)))

      module _ (a : Result (Unit {0}) Refusal) (rules : a ≡ judged_by n x) where
        judges-as : (b : Result (Unit {0}) Refusal) → a ≡ b → Judged c k (ruling b (found_by c t k))
        judges-as b e = subst (λ (a : Result (Unit {0}) Refusal). Judged c k (ruling a (found_by c t k))) (sym rules ∙ e) judges-ruling

        refused-finds : (v : Refusal) → a ≡ Err v → Finds (Some (refused_with v))
        unfolding refused_with places_of
        refused-finds v e = record { judges = judged f r (refused (meant v)) (judges-as (Err v) e) (refused_with v) refl refl }

        ready-finds : a ≡ Ok tt → Finds (Some (answered_with (answer_of (found_by c t k)).kind (answer_of (found_by c t k)).places))
        unfolding answer_of places_of
        ready-finds e = go (found_by c t k) (judges-as (Ok tt) e)
          where
            go : (w : Found) → Judged c k (reply_of w) → Finds (Some (answered_with (answer_of w).kind (answer_of w).places))
            go (found l) j = record { judges = judged f r (breach l) j (answered_with (answer_of (found l)).kind (answer_of (found l)).places) refl refl }
            go nothing j = record { judges = judged f r none j (answered_with (answer_of nothing).kind (answer_of nothing).places) refl refl }

  -- ---- the closing's answer

  module _ (z : Classes) (w : Closes most_rows most_statements rows said z.answer z.table) where
    closed-fit : z.answer ≡ C.Closed → Fits × Promise c most_rows z.table
    closed-fit e = go z.answer e w
      where
        go : (a : Closing) → a ≡ C.Closed → Closes most_rows most_statements rows said a z.table → Fits × Promise c most_rows z.table
        go C.Closed e p = p
        go C.Unfit e p = absurd (let z : ◌≡◌ {A = ℕ} 0 1 = cc in omega arith)

    closed-unfit : z.answer ≡ C.Unfit → Fits → ⊥
    closed-unfit e = go z.answer e w
      where
        go : (a : Closing) → a ≡ C.Unfit → Closes most_rows most_statements rows said a z.table → Fits → ⊥
        go C.Closed e p = absurd (let z : ◌≡◌ {A = ℕ} 0 1 = cc in omega arith)
        go C.Unfit e p = p.0

    -- ---- the ways out

    pub over-context : z.answer ≡ C.Unfit → FindsRuns rows said patterns literals None
    over-context e = record { judges = unfit (λ f r. closed-unfit e f) }

    module _ (shut : z.answer ≡ C.Closed) where
      pub over-low : (x : Option ℕ) → clashing x ≡ clash_of (rep_at z.table) (differences_of (statements_of said)) → Low x
      over-low x clash =
          record { low = λ n e. omega (arith, clash-small (rep_at z.table) said n (sym clash ∙ ap clashing e), (closed-fit shut).0.said-few) }

      pub over-ready : (b : Bool) → Decides b (FitClause patterns literals) → not b ≡ false → Ready rows said patterns literals z.table
      over-ready b d e = record { context = (closed-fit shut).0; rule = d.holds (not-false b e); closed = (closed-fit shut).1 }

      module _ (b : Bool) (d : Decides b (FitClause patterns literals)) (so : not b ≡ false) (x : Option ℕ)
          (clash : clashing x ≡ clash_of (rep_at z.table) (differences_of (statements_of said))) (n : ℕ) (counted : n ≡ literal_count literals) (a : Result (Unit {0}) Refusal)
          (rules : a ≡ judged_by n x) where
        pub over-refused : (v : Refusal) (y : Reply) → y ≡ refused_with v → a ≡ Err v → FindsRuns rows said patterns literals (Some y)
        over-refused v y q e =
            rw q (refused-finds (closed-fit shut).0 (d.holds (not-false b so)) z.table (closed-fit shut).1 x clash n counted a rules v e)

        pub over-found : (y : Reply) (s : Searched) → y ≡ answered_with s.kind s.places
            → s ≡ answer_of (found_by (context_of rows said) z.table (clause_of patterns literals)) → a ≡ Ok tt → FindsRuns rows said patterns literals (Some y)
        over-found y s q g e =
            rw (q, g) (ready-finds (closed-fit shut).0 (d.holds (not-false b so)) z.table (closed-fit shut).1 x clash n counted a rules e)

  pub over-rule : (b : Bool) → Decides b (FitClause patterns literals) → not b ≡ true → FindsRuns rows said patterns literals None
  over-rule b d e = record { judges = unfit (λ f r. decides_not d (not-true b e) r) }

pub ruleset mine = (rules, over-rule, over-context, over-low, over-ready, over-refused, over-found)
