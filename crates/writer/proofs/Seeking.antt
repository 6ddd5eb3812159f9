-- What the search tells is what the writer answers.
--     outcome-answered the search's answer as it is told
--     unfit-not-none   a failure would not be told as none
--     seek-..          what is found is a breach, and its four places are those of the search; well-formed runs are never unfit
--     mine             what these functions leave to show
-- Assumes nothing.
use mathlib.Core.List.{List, [], ◌∷◌}
use mathlib.Core.Path.{◌≡◌, refl, sym, ap, ◌∙◌}
use Prim.Native.Nat.{ℕ}
use native.Mathlib.Omega.{arith}
use borrow.Author.Rules.{rules}
use lib.ListN.{length}
use Rattle.meaning.specs.Context.{Context}
use Rattle.meaning.specs.Rules.{Clause, Found, found, nothing}
use Rattle.meaning.specs.Replies.{breach, none, places_of}
use Rattle.runs.specs.Limits.{most_variables}
use Rattle.runs.specs.Runs.{context_of, literal_count, clause_of}
use Rattle.runs.proofs.Saying.{length-rows}
use Rattle.replies.specs.Told.{told_by, told_of}
use Rattle.replies.specs.declared.Outcome.TheVariants as O
use Rattle.search.specs.Hunting.{answer_of}
use Rattle.search.specs.Finding.{found_by}
use Rattle.search.specs.declared.Kind.{Kind}
use Rattle.search.specs.declared.Kind.TheVariants as S
use Rattle.search.specs.declared.Reply.{Reply as Searched}
use Rattle.hunting.specs.Laid.{Ready}
use Rattle.grounds_verdict.specs.declared.Conclusions.{Conclusions}
use Rattle.writer.specs.Drawing.{Broken, Shows}
use Rattle.replies.specs.declared.Reply.{Reply}
use Rattle.finder.specs.Claims.{answered_with}
use Rattle.writer.specs.Seeking.{bare_with, Draws, outcome_by, Seekable, Sought}
use Rattle.writer.specs.declared.Grounds.{Grounds}
use Rattle.writer.specs.declared.drawing.Support.{Support}
use Rattle.writer.proofs.Placing.{placed-chosen, placed-holds}

-- what the finder tells for the search's answer
outcome-answered : (kind : Kind) (places : List ℕ) → (answered_with kind places).outcome ≡ outcome_by kind
outcome-answered (S.Breach n) places = refl
outcome-answered S.Clear places = refl
outcome-answered S.Unfit places = refl

-- a failure is not told as none
pub unfit-not-none : told_by (outcome_by S.Unfit) ≡ told_of none → ⊥
unfit-not-none e = let z : ◌≡◌ {A = ℕ} 10 9 = cc in omega arith

-- ---- a breach

pub shown-draws : (rows said patterns literals a : List ℕ) (n m many : ℕ) (d : Conclusions) (steps : List (List ℕ)) (s : Support) {steps' : List (List ℕ)}
    → Shows rows said patterns literals a steps s steps'
    → m ≡ literal_count literals
    → many ≡ s.steps
    → d ≡ s.conclusions
    → Draws rows said patterns literals n a steps (record { outcome = O.Breach n; places = a; steps = many; literals = m; conclusions = d }) steps'
shown-draws rows said patterns literals a n m many d steps s w e f g = rw (e, f, g) (record { outcome = refl; places = refl; shown = w.shown (O.Breach n) })

-- ---- what is found

module _ (rows said patterns literals table : List ℕ) (w : Seekable rows said patterns literals table) where
  abbrev c : Context
  c = context_of rows said

  abbrev k : Clause
  k = clause_of patterns literals

  pub seek-ready : Ready rows said patterns literals table
  seek-ready = w.ready

  module _ (x : Searched) (search_is : x ≡ answer_of (found_by c table k)) where
    answer-found : (q : Found) → found_by c table k ≡ q → (x.kind ≡ (answer_of q).kind) × (x.places ≡ (answer_of q).places)
    answer-found q e = (ap (λ (y : Searched). y.kind) (search_is ∙ ap answer_of e), ap (λ (y : Searched). y.places) (search_is ∙ ap answer_of e))

    -- a breach that is told was found, and stands in the places
    told-found : (n : ℕ) → x.kind ≡ S.Breach n
        → (a : List ℕ) × (found_by c table k ≡ found a) × (n ≡ length a) × (x.places ≡ places_of (breach a))
    unfolding answer_of places_of
    told-found n e = go (found_by c table k) refl
      where
        go : (q : Found) → found_by c table k ≡ q
            → (a : List ℕ) × (found_by c table k ≡ found a) × (n ≡ length a) × (x.places ≡ places_of (breach a))
        go (found a) f = let z : S.Breach n ≡ S.Breach (length a) = sym e ∙ (answer-found (found a) f).0 in (a, f, cc, (answer-found (found a) f).1)
        go nothing f = absurd (let z : S.Breach n ≡ S.Clear = sym e ∙ (answer-found nothing f).0 in let o : ◌≡◌ {A = ℕ} 0 1 = cc in omega arith)

    pub seek-broken : (n : ℕ) → x.kind ≡ S.Breach n → length x.places ≡ most_variables → Broken rows said patterns literals x.places
    unfolding places_of
    seek-broken n e four =
        let t : (a : List ℕ) × (found_by c table k ≡ found a) × (n ≡ length a) × (x.places ≡ places_of (breach a)) = told-found n e in
        record {
          context = w.ready.context;
          rule = w.ready.rule;
          chosen =
              record {
                four = four;
                chosen =
                    rw t.3
                    (λ v h.
                    let q = placed-chosen c k t.0 (w.breach t.0 t.1) v h in
                    (q.0, omega (arith, q.1, length-rows rows)));
              };
          holds = rw t.3 (placed-holds c k t.0 (w.breach t.0 t.1));
        }

    module _ (steps : List (List ℕ)) where
      pub seek-clear : x.kind ≡ S.Clear → (r : Reply) → r ≡ answered_with x.kind x.places → (y : Grounds) → y ≡ bare_with r.outcome x.places
          → Sought rows said patterns literals table steps y steps
      unfolding bare_with places_of answer_of
      seek-clear e r answered y q = rw q (go (found_by c table k) refl)
        where
          go : (f : Found) → found_by c table k ≡ f → Sought rows said patterns literals table steps (bare_with r.outcome x.places) steps
          go (found a) f = absurd (let z : S.Clear ≡ S.Breach (length a) = sym e ∙ (answer-found (found a) f).0 in let i : ◌≡◌ {A = ℕ} 0 1 = cc in omega arith)
          go nothing f =
              record {
                what = nothing;
                finds = f;
                told =
                    ap told_by
                    (ap (λ (z : Reply). z.outcome) answered
                    ∙ outcome-answered x.kind x.places
                    ∙ ap outcome_by (answer-found nothing f).0);
                places = (answer-found nothing f).1;
                leaves = record { count = refl; literals = refl; conclusions = refl; words = refl };
              }

      pub seek-unfit : x.kind ≡ S.Unfit → {y : Grounds} → Sought rows said patterns literals table steps y steps
      unfolding answer_of
      seek-unfit e = absurd (go (found_by c table k) refl)
        where
          go : (f : Found) → found_by c table k ≡ f → ⊥
          go (found a) f = let z : S.Unfit ≡ S.Breach (length a) = sym e ∙ (answer-found (found a) f).0 in let i : ◌≡◌ {A = ℕ} 0 1 = cc in omega arith
          go nothing f = let z : S.Unfit ≡ S.Clear = sym e ∙ (answer-found nothing f).0 in let i : ◌≡◌ {A = ℕ} 0 1 = cc in omega arith

      pub seek-drawn : (n : ℕ) → x.kind ≡ S.Breach n → {y : Grounds} {steps' : List (List ℕ)}
          → Draws rows said patterns literals n x.places steps y steps'
          → Sought rows said patterns literals table steps y steps'
      seek-drawn n e d =
          let t : (a : List ℕ) × (found_by c table k ≡ found a) × (n ≡ length a) × (x.places ≡ places_of (breach a)) = told-found n e in
          record {
            what = found t.0;
            finds = t.1;
            told = ap told_by d.outcome ∙ ap (λ (m : ℕ). 8 ∷ m ∷ []) t.2;
            places = d.places ∙ t.3;
            leaves = d.shown;
          }

pub ruleset mine = (
  rules,
  shown-draws,
  seek-ready,
  seek-broken,
  seek-clear,
  seek-unfit,
  seek-drawn,
)
