-- At the start each entry has a reflexive step, and its number for a label.
--     started-going   and all that holds between the passes holds
-- Assumes nothing.
use mathlib.Core.Bool.{Bool, true, false}
use mathlib.Core.List.{List}
use mathlib.Core.Path.{◌≡◌, refl, ap, sym, ◌∙◌}
use Prim.Native.Nat.{ℕ, zero, suc, ◌+◌, ◌≤◌, ◌<◌}
use native.Mathlib.Omega.{arith}
use lib.Dec.{eqb}
use borrow.Author.Tests.{eqb-true, eqb-false}
use lib.ListN.{length, length-replicate, get_or-replicate}
use Rattle.meaning.specs.Context.{Context}
use Rattle.meaning.specs.Rules.{Clause}
use Rattle.meaning.specs.Values.{number_at}
use Rattle.meaning.proofs.Cited.{Ready}
use Rattle.grounds_numbers.specs.Limits.{most_entries}
use Rattle.grounds_steps.specs.Steps.{most_each}
use Rattle.grounds_laws.specs.Limits.{draft_run, class_run}
use Rattle.grounds_laws.specs.Draft.{count_in, Written, pushed}
use Rattle.grounds_laws.specs.Classes.{label_in, why_in, State, upto}
use Rattle.grounds_laws.specs.Rounds.{start_one, blank, started}
use Rattle.grounds_laws.proofs.Drafts.{length-draft, count-pushed, number_pushed}
use Rattle.grounds_laws.proofs.Builds.{shared-run, all, Steps, Shows, Made, number-term, number-inside, reflexive-made}
use Rattle.grounds_laws.proofs.Joins.{length-fresh, label-fresh, why-fresh, label-other, why-other}
use Rattle.grounds_laws.proofs.Payments.{paid-start}
use Rattle.grounds_laws.proofs.Outcomes.{Going}

blank-count : count_in blank.cells ≡ 0
unfolding blank
blank-count = get_or-replicate draft_run 0 0 0 (omega arith)

blank-cells : length blank.cells ≡ draft_run
unfolding blank
blank-cells = length-replicate {A = ℕ} draft_run 0

blank-table : length blank.table ≡ class_run
unfolding blank
blank-table = length-replicate {A = ℕ} class_run 0

module _ (c : Context) (k : Clause) (a : List ℕ) (ns : List ℕ) (ready : Ready c k a ns) (few : length c.rows + length k.patterns ≤ most_entries) where
  abbrev N : ℕ
  N = all c k a ns ready

  -- after the first n entries
  record Starting (n : ℕ) (state : State) : Type 0 where
    good : Steps c k a ns ready (shared-run c k a) state.cells
    count : count_in state.cells ≡ n
    long : length state.table ≡ class_run
    own : (x : ℕ) → x < n → Shows c k a ns ready (shared-run c k a) state.cells (x + 1) x (number_at ns x)
    label : (x : ℕ) → x < n → label_in state.table x ≡ number_at ns x
    why : (x : ℕ) → x < n → why_in state.table x ≡ x + 1

  starting : Starting 0 blank
  starting =
      record {
        good = record { follow = λ i h. absurd (omega (arith, length-draft (length c.rows) 0 0 blank.cells, blank-count)); long = blank-cells; past = omega arith };
        count = blank-count;
        long = blank-table;
        own = λ x h. absurd (omega arith);
        label = λ x h. absurd (omega arith);
        why = λ x h. absurd (omega arith);
      }

  start-next : (n : ℕ) → n < N → (state : State) → Starting n state → Starting (suc n) (start_one ns n state)
  unfolding start_one
  start-next n h state s =
      record {
        good = m.grown.good;
        count = count-pushed (length c.rows) 0 0 state.cells 2 n (number_at ns n) 0 0 0 0 s.good.long room ∙ ap suc s.count;
        long = length-fresh state.table n (number_at ns n) w.number ∙ s.long;
        own = λ x l. own' x l (eqb x n) refl;
        label = λ x l. label' x l (eqb x n) refl;
        why = λ x l. why' x l (eqb x n) refl;
      }
    where
      room : count_in state.cells < most_each
      room = omega (arith, s.count)

      w : Written
      w = pushed state.cells 2 n (number_at ns n) 0 0 0 0

      m : Made c k a ns ready (shared-run c k a) state.cells w 1 n (number_at ns n)
      m =
          reflexive-made c k a ns ready (shared-run c k a) state.cells s.good room n (number_at ns n) h (number-inside c k a ns ready n h) (sym (number-term c k a ns ready n h))

      number : w.number ≡ n + 1
      number = number_pushed (length c.rows) 0 0 state.cells 2 n (number_at ns n) 0 0 0 0 s.good.long room ∙ omega (arith, s.count)

      own' : (x : ℕ) → x < suc n → (b : Bool) → eqb x n ≡ b → Shows c k a ns ready (shared-run c k a) w.cells (x + 1) x (number_at ns x)
      own' x l true e = rw (eqb-true x n e, sym number) m.shows
      own' x l false e = m.grown.keeps _ _ _ (s.own x (omega (arith, eqb-false x n e)))

      label' : (x : ℕ) → x < suc n → (b : Bool) → eqb x n ≡ b → label_in (start_one ns n state).table x ≡ number_at ns x
      label' x l true e = rw (eqb-true x n e) (label-fresh state.table n (number_at ns n) w.number (omega (arith, s.long)))
      label' x l false e =
          label-other state.table n (number_at ns n) w.number x (eqb-false x n e)
          ∙ s.label x (omega (arith, eqb-false x n e))

      why' : (x : ℕ) → x < suc n → (b : Bool) → eqb x n ≡ b → why_in (start_one ns n state).table x ≡ x + 1
      why' x l true e = rw (eqb-true x n e) (why-fresh state.table n (number_at ns n) w.number (omega (arith, s.long)) ∙ number)
      why' x l false e =
          why-other state.table n (number_at ns n) w.number x (eqb-false x n e) ∙ s.why x (omega (arith, eqb-false x n e))

  start-all : (n : ℕ) → n ≤ N → Starting n (started ns n blank)
  unfolding started upto
  start-all zero h = starting
  start-all (suc n) h = start-next n (omega arith) (started ns n blank) (start-all n (omega arith))

  pub started-going : Going c k a ns ready few (shared-run c k a) (started ns N blank)
  started-going =
      record {
        sound = record {
          good = s.good;
          long = omega (arith, s.long);
          own = s.own;
          inside = λ x h. rw (s.label x h) (number-inside c k a ns ready x h);
          why = λ x h. rw (s.why x h, s.label x h) (s.own x h);
          like = λ x h. rw (s.label x h, s.label (number_at ns x) (number-inside c k a ns ready x h)) (sym (ready.faithful.settled x h));
          settled = λ x h. rw (s.label x h, s.label (number_at ns x) (number-inside c k a ns ready x h)) (ready.faithful.settled x h);
        };
        paid = paid-start N (label_in (started ns N blank).table) (count_in (started ns N blank).cells) (omega (arith, s.count));
      }
    where
      s : Starting N (started ns N blank)
      s = start-all N (omega arith)
