-- One literal of a breach by itself, from the closed classes of shared steps.
--     said-literal                what `said` gives for a literal that holds is `SaidFor` it
--     SaidFor                     steps that all follow, and by which the literal's conclusion is shown; at most 7,020, the shared ones first and as they were, and at most two more of a literal that owns none
--     said-shared                 the first of these steps are the shared ones
--     Closed, closed-shared       closed classes of shared steps; the closing ends in such
--     shared-few                  shared steps are at most 7,018
--     hold_at                     each literal of a breach holds
-- A writer closes once and then takes one literal after the other. Each starts again from the closed classes (`resumed`), in the column that the literal
-- before it has left: all that `said-literal` asks of a column is that it is `Under` the closed one, which that one itself is (`under-self`), and which it
-- is again after each literal (`SaidFor.under`). Assumes nothing.
use mathlib.Core.List.{List, [], ◌∷◌}
use mathlib.Core.Path.{◌≡◌, refl, sym, ◌∙◌, subst₂}
use Prim.Native.Nat.{ℕ, zero, suc, ◌+◌, ◌≤◌, ◌<◌}
use native.Mathlib.Omega.{arith}
use lib.ListN.{length, take}
use lib.Seq.{get_or-set_same}
use Rattle.meaning.specs.Context.{Term, Row, left_at, right_at, Context, equations, differences}
use Rattle.meaning.specs.Equality.{EqualIn, EqualAdding}
use Rattle.meaning.specs.Rules.{Literal, equal, unequal, Clause, Differ, Holds, AllHold}
use Rattle.meaning.specs.Formed.{Names}
use Rattle.meaning.specs.Values.{number_at}
use Rattle.meaning.specs.Grounds.{literal_at, instances_of, instance_at, UnequalAt, Concludes, Owner, shared, owned}
use Rattle.meaning.specs.Checking.{numbered}
use Rattle.meaning.proofs.Cited.{Ready, named-at}
use Rattle.grounds_numbers.specs.Limits.{most_entries}
use Rattle.grounds_steps.specs.Steps.{most_each}
use Rattle.grounds_laws.specs.Draft.{count_in, draft}
use Rattle.grounds_laws.specs.Classes.{label_in, State}
use Rattle.grounds_laws.specs.Rounds.{started, stated, added_pair, rounds, blank}
use Rattle.grounds_laws.specs.Concluding.{Said, said_equal, said_same, furthered, said_differ, said, resumed, owner_of}
use Rattle.grounds_laws.proofs.Drafts.{Under, under-then, under-counted, under-draft, draft-take, Follow}
use Rattle.grounds_laws.proofs.Builds.{Run, shared-run, all}
use Rattle.grounds_laws.proofs.Payments.{paid-most}
use Rattle.grounds_laws.proofs.Outcomes.{Going, United, Stated, inside, stated-joined, added-joined, going-owned}
use Rattle.grounds_laws.proofs.Passes.{Keys, Met, Rested, rounds-closed}
use Rattle.grounds_laws.proofs.Starts.{started-going}
use Rattle.grounds_laws.proofs.Complete.{side-term, side-inside, equal-labels, adding-labels}
use Rattle.grounds_laws.proofs.Concludes.{conclusion, Sides, sides, Concluded, equal-made, differ-made}

pub hold_at : (c : Context) (ts : List Term) (ls : List Literal) → AllHold c ts ls → (j : ℕ) → j < length ls → Holds c ts (literal_at ls j)
hold_at c ts [] w j h = absurd (omega arith)
hold_at c ts (l ∷ ls) w zero h = w.0
hold_at c ts (l ∷ ls) w (suc j) h = hold_at c ts ls w.1 j (omega arith)

module _ (c : Context) (k : Clause) (a : List ℕ) (ns : List ℕ) (ready : Ready c k a ns) (few : length c.rows + length k.patterns ≤ most_entries) (ks : List Row)
    (keyed : Keys c k a ns ready few ks) where
  abbrev N : ℕ
  N = all c k a ns ready

  abbrev rows : ℕ
  rows = length c.rows

  abbrev eqs : List (ℕ × ℕ)
  eqs = numbered ns (equations c)

  abbrev diffs : List (ℕ × ℕ)
  diffs = numbered ns (differences c)

  abbrev side : ℕ → ℕ
  side p = number_at ns (rows + p)

  abbrev shares : Run c k a
  shares = shared-run c k a

  -- ---- the closed classes of shared steps

  pub record Closed (state : State) : Type 0 where
    pub going : Going c k a ns ready few shares state
    pub stated : (i : ℕ) → i < length eqs → label_in state.table (left_at eqs i) ≡ label_in state.table (right_at eqs i)
    pub met : (x : ℕ) → x < N → (y : ℕ) → y < x → Met ks x y state

  pub closed-shared : Closed (rounds N ks most_each (stated N eqs (started ns N blank)))
  closed-shared =
      record {
        going = r.going;
        stated = λ i h. r.coarser (left_at eqs i) (right_at eqs i) (inside c k a ns ready few shares i h).0 (inside c k a ns ready few shares i h).1 (s.one i h);
        met = r.closed;
      }
    where
      s : Stated c k a ns ready few shares (length eqs) (stated N eqs (started ns N blank))
      s = stated-joined c k a ns ready few shares (started ns N blank) (started-going c k a ns ready few)

      r : Rested c k a ns ready few shares ks keyed (stated N eqs (started ns N blank)) (rounds N ks most_each (stated N eqs (started ns N blank)))
      r = rounds-closed c k a ns ready few shares ks keyed most_each (stated N eqs (started ns N blank)) s.going (omega arith)

  -- ---- what is said for a literal

  module _ (closed : State) (w : Closed closed) where
    abbrev from : ℕ
    from = count_in closed.cells

    pub shared-few : from ≤ 7018
    shared-few = paid-most N (label_in closed.table) from few w.going.paid

    -- for literal j, counted from 0
    pub record SaidFor (j : ℕ) (l : Literal) (s : Said) : Type 0 where
      pub follow : Follow c k a (draft rows from (owner_of j l) s.cells)
      pub concludes : Concludes c k a (draft rows from (owner_of j l) s.cells) (suc j) (conclusion j s) l
      pub most : count_in s.cells ≤ 7020
      pub past : from ≤ count_in s.cells
      pub brief : owner_of j l ≡ 0 → count_in s.cells ≤ from + 2
      pub under : Under from closed.cells s.cells

    pub said-shared : (j : ℕ) (l : Literal) (s : Said) → SaidFor j l s → take from (draft rows from (owner_of j l) s.cells) ≡ draft rows 0 0 closed.cells
    unfolding draft
    said-shared j l s r = draft-take rows from (owner_of j l) s.cells from r.past ∙ under-draft rows from (owner_of j l) closed.cells s.cells r.under

    module _ (cells : List ℕ) (under : Under from closed.cells cells) where
      abbrev again : State
      again = resumed closed cells

      again-count : count_in again.cells ≡ from
      unfolding resumed
      again-count = get_or-set_same cells 0 from 0 (omega (arith, under.long, w.going.sound.good.long))

      again-under : Under from closed.cells again.cells
      unfolding resumed
      again-under = under-counted from under

      again-stated : (i : ℕ) → i < length eqs → label_in again.table (left_at eqs i) ≡ label_in again.table (right_at eqs i)
      unfolding resumed
      again-stated = w.stated

      -- the run of an owner after the shared steps
      abbrev after-shared : (o : ℕ) → Owner c k a o → Run c k a
      after-shared o owns = record { from = from; owner = o; owns = owns }

      again-going : (o : ℕ) (owns : Owner c k a o) → Going c k a ns ready few (after-shared o owns) again
      unfolding resumed
      again-going o owns = going-owned c k a ns ready few (after-shared o owns) closed w.going again.cells refl again-count again-under

      said-equal : (j p q : ℕ) → p < length k.patterns → q < length k.patterns → EqualIn c (instance_at c k a p) (instance_at c k a q)
          → SaidFor j (equal p q) (said N ks ns rows diffs (equal p q) again)
      unfolding said owner_of resumed
      said-equal j p q hp hq d =
          record {
            follow = m.grown.good.follow;
            concludes = m.concludes;
            most = omega (arith, m.grown.more, again-count, shared-few);
            past = omega (arith, m.grown.least, again-count);
            brief = λ e. omega (arith, m.grown.more, again-count);
            under = under-then (omega (arith, again-count)) again-under m.grown.under;
          }
        where
          one : label_in closed.table (side p) ≡ label_in closed.table (side q)
          one =
              equal-labels c k a ns ready shares few ks keyed closed w.going.sound w.met w.stated refl (side p) (side q) (side-inside c k a ns ready p hp)
              (side-inside c k a ns ready q hq)
              (subst₂ (EqualIn c) (sym (side-term c k a ns ready p hp)) (sym (side-term c k a ns ready q hq)) d)

          m : Concluded c k a ns ready few (after-shared 0 (shared refl)) again.cells j (equal p q) (said_equal again.cells again.table (side p) (side q))
          m =
              equal-made c k a ns ready few (after-shared 0 (shared refl)) again (again-going 0 (shared refl)).sound (omega (arith, again-count, shared-few)) j p q hp hq refl
              one

      said-unequal : (j p q : ℕ) → j < length k.literals → literal_at k.literals j ≡ unequal p q → p < length k.patterns → q < length k.patterns
          → Differ c (instance_at c k a p) (instance_at c k a q)
          → SaidFor j (unequal p q) (said N ks ns rows diffs (unequal p q) again)
      unfolding said said_differ furthered owner_of
      said-unequal j p q h e hp hq d =
          record {
            follow = m.grown.good.follow;
            concludes = m.concludes;
            most = omega (arith, m.grown.more, bound);
            past = omega (arith, m.grown.least, r.least, u.outcome.least, again-count);
            brief = λ e. absurd (omega (arith, e));
            under =
                under-then (omega (arith, again-count)) again-under
                (under-then u.outcome.least u.outcome.under (under-then r.least r.under m.grown.under));
          }
        where
          unequal_at : (t v : Term) → t ≡ instance_at c k a p → v ≡ instance_at c k a q → UnequalAt c k a (suc j) t v
          unequal_at t v l r = record { place = j; counted = refl; inside = h; left_row = p; right_row = q; literal = e; left = l; right = r }

          run : Run c k a
          run = after-shared (suc j) (owned _ _ (unequal_at _ _ refl refl))

          hx : side p < N
          hx = side-inside c k a ns ready p hp

          hy : side q < N
          hy = side-inside c k a ns ready q hq

          joined : State
          joined = added_pair N (side p) (side q) again

          u : United c k a ns ready few run (λ s. Unit {0}) again (side p) (side q) joined
          u =
              added-joined c k a ns ready few run again (again-going (suc j) run.owns) (side p) (side q) hx hy
              (unequal_at _ _ (side-term c k a ns ready p hp) (side-term c k a ns ready q hq))

          after : State
          after = rounds N ks most_each joined

          r : Rested c k a ns ready few run ks keyed joined after
          r = rounds-closed c k a ns ready few run ks keyed most_each joined u.outcome.going (omega arith)

          bound : count_in after.cells ≤ 7018
          bound = paid-most N (label_in after.table) (count_in after.cells) few r.going.paid

          -- rows with one label have kept one
          kept : (x y : ℕ) → x < N → y < N → label_in again.table x ≡ label_in again.table y → label_in after.table x ≡ label_in after.table y
          kept x y lx ly o = r.coarser x y lx ly (u.outcome.coarser x y lx ly o)

          b : Sides c k a ns ready d.0
          b = sides c k a ns ready d.0 d.1

          one : label_in after.table (left_at diffs d.0) ≡ label_in after.table (right_at diffs d.0)
          one =
              adding-labels c k a ns ready run few ks keyed after r.going.sound r.closed
              (λ i l. kept (left_at eqs i) (right_at eqs i) (inside c k a ns ready few run i l).0 (inside c k a ns ready few run i l).1 (again-stated i l))
              j
              p
              q
              refl
              e
              hp
              hq
              (r.coarser (side p) (side q) hx hy u.one)
              (left_at diffs d.0)
              (right_at diffs d.0)
              b.left_in
              b.right_in
              (subst₂ (EqualAdding c (instance_at c k a p) (instance_at c k a q)) (sym b.left_term) (sym b.right_term) d.2)

          m : Concluded c k a ns ready few run after.cells j (unequal p q) (said_same after.cells after.table diffs)
          m = differ-made c k a ns ready few run after r.going.sound (omega (arith, bound)) j p q d.0 refl d.1 one

      said-one : (j : ℕ) → j < length k.literals → (l : Literal) → literal_at k.literals j ≡ l → Names (length k.patterns) l → Holds c (instances_of c k a) l
          → SaidFor j l (said N ks ns rows diffs l again)
      said-one j h (equal p q) e n d = said-equal j p q n.0 n.1 d
      said-one j h (unequal p q) e n d = said-unequal j p q h e n.0 n.1 d

      pub said-literal : (j : ℕ) → j < length k.literals → Holds c (instances_of c k a) (literal_at k.literals j)
          → SaidFor j (literal_at k.literals j) (said N ks ns rows diffs (literal_at k.literals j) (resumed closed cells))
      said-literal j h d =
          said-one j h (literal_at k.literals j) refl (named-at (length k.patterns) k.literals ready.formed.named j h) d
