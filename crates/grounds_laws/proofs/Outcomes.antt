-- What a pass does: it changes nothing and a goal is met, or it writes a step.
--     Going                          what holds between the passes
--     Outcome                        from one state to another
--     join-outcome                   a join writes a step, and two entries have one label
--     added-joined                   the sides of an unequal literal that owns the steps have one label
--     stated-joined                  the sides of each stated equation have one label
--     going-owned                    what holds of shared steps holds for a run after them
-- Assumes nothing.
use mathlib.Core.Bool.{Bool, true, false}
use mathlib.Core.List.{List}
use mathlib.Core.Path.{◌≡◌, refl, ap, sym, ◌∙◌, subst}
use mathlib.Core.Logic.{◌⊎◌, inl, inr, ⊎_elim}
use Prim.Native.Nat.{ℕ, zero, suc, ◌+◌, ◌≤◌, ◌<◌}
use native.Mathlib.Omega.{arith}
use lib.Dec.{eqb}
use borrow.Author.Tests.{eqb-true, eqb-false}
use lib.ListN.{length}
use Rattle.meaning.specs.Context.{Row, row_at, term_at, left_at, right_at, Context, equations}
use Rattle.meaning.specs.Rules.{Clause}
use Rattle.meaning.specs.Values.{number_at}
use Rattle.meaning.specs.Grounds.{PairAt, UnequalAt}
use Rattle.meaning.specs.Checking.{numbered}
use Rattle.meaning.specs.Closing.{move}
use Rattle.meaning.proofs.Entries.{entry_row}
use Rattle.meaning.proofs.Cited.{Ready, length-numbered, numbered-left, numbered-right}
use Rattle.meaning.proofs.Progress.{move-cases}
use Rattle.grounds_numbers.specs.Limits.{most_entries}
use Rattle.grounds_steps.specs.Steps.{most_each}
use Rattle.grounds_laws.specs.Draft.{count_in, Written, pushed}
use Rattle.grounds_laws.specs.Classes.{label_in, State, upto, joined}
use Rattle.grounds_laws.specs.Rounds.{pair_joined, stated_pair, added_pair, state_one, stated}
use Rattle.grounds_laws.proofs.Drafts.{Under, under-self, under-then, count-pushed}
use Rattle.grounds_laws.proofs.Builds.{Run, shared-run, all, table, term, Made, grown-most, number-term, number-inside, stated-made, added-made}
use Rattle.grounds_laws.proofs.Joins.{Sound, sound-grown, Joined, joined-sound, sound-owned}
use Rattle.grounds_laws.proofs.Payments.{Paid, paid-most, paid-fewer, paid-join, size_in_lem}

module _ (c : Context) (k : Clause) (a : List ℕ) (ns : List ℕ) (ready : Ready c k a ns) (few : length c.rows + length k.patterns ≤ most_entries) (run : Run c k a) where
  abbrev N : ℕ
  N = all c k a ns ready

  abbrev entry : ℕ → Row
  entry x = row_at (table c k a ns ready) x

  pub record Going (state : State) : Type 0 where
    pub sound : Sound c k a ns ready run state
    pub paid : Paid N (label_in state.table) (count_in state.cells)

  -- nothing changed, and a goal is met; or a step was written. Entries with one label keep one
  pub record Outcome (Ok : State → Type 0) (before after : State) : Type 0 where
    pub going : Going after
    pub coarser : (x y : ℕ) → x < N → y < N → label_in before.table x ≡ label_in before.table y → label_in after.table x ≡ label_in after.table y
    pub least : count_in before.cells ≤ count_in after.cells
    pub under : Under (count_in before.cells) before.cells after.cells
    pub did : ((after ≡ before) × Ok before) ⊎ (count_in before.cells < count_in after.cells)

  pub unchanged : {Ok : State → Type 0} (state : State) → Going state → Ok state → Outcome Ok state state
  unchanged state g o =
      record { going = g; coarser = λ x y hx hy e. e; least = omega arith; under = under-self (count_in state.cells) state.cells; did = inl (refl, o) }

  then : {P Q : State → Type 0} {s t u : State} → Outcome P s t → Outcome Q t u → Outcome (λ x. P x × Q x) s u
  then {P} {Q} {s} {t} {u} p q =
      record {
        going = q.going;
        coarser = λ x y hx hy e. q.coarser x y hx hy (p.coarser x y hx hy e);
        least = omega (arith, p.least, q.least);
        under = under-then p.least p.under q.under;
        did = go p.did q.did;
      }
    where
      go : ((t ≡ s) × P s) ⊎ (count_in s.cells < count_in t.cells) → ((u ≡ t) × Q t) ⊎ (count_in t.cells < count_in u.cells)
          → ((u ≡ s) × (P s × Q s)) ⊎ (count_in s.cells < count_in u.cells)
      go (inl x) (inl y) = inl (y.0 ∙ x.0, (x.1, subst Q x.0 y.1))
      go (inr x) y = inr (omega (arith, q.least))
      go (inl x) (inr y) = inr (omega (arith, p.least))

  weaken : {P Q : State → Type 0} {s t : State} → ((x : State) → P x → Q x) → Outcome P s t → Outcome Q s t
  weaken {s = s} f p =
      record { going = p.going; coarser = p.coarser; least = p.least; under = p.under; did = ⊎_elim (λ x. inl (x.0, f s x.1)) (λ x. inr x) p.did }

  pub upto-outcome : (n : ℕ) (step : ℕ → State → State) (Ok : ℕ → State → Type 0)
      → ((i : ℕ) → i < n → (s : State) → Going s → Outcome (Ok i) s (step i s))
      → (s : State) → Going s → Outcome (λ x. (i : ℕ) → i < n → Ok i x) s (upto n step s)
  unfolding upto
  upto-outcome zero step Ok h s g = unchanged s g (λ i l. absurd (omega arith))
  upto-outcome (suc n) step Ok h s g =
      let p : Outcome (λ x. (i : ℕ) → i < n → Ok i x) s (upto n step s) = upto-outcome n step Ok (λ i l. h i (omega arith)) s g in
      weaken last (then p (h n (omega arith) (upto n step s) p.going))
    where
      last : (x : State) → (((i : ℕ) → i < n → Ok i x) × Ok n x) → (i : ℕ) → i < suc n → Ok i x
      last x p i l = go (eqb i n) refl
        where
          go : (b : Bool) → eqb i n ≡ b → Ok i x
          go true e = subst (λ (y : ℕ). Ok y x) (sym (eqb-true i n e)) p.1
          go false e = p.0 i (omega (arith, eqb-false i n e))

  -- ---- a join

  abbrev Ends : State → ℕ → ℕ → ℕ → ℕ → Type 0
  Ends state x y from to =
      ((from ≡ label_in state.table x) × (to ≡ label_in state.table y)) ⊎ ((from ≡ label_in state.table y) × (to ≡ label_in state.table x))

  -- and the two have one label
  pub record United (Ok : State → Type 0) (before : State) (x y : ℕ) (after : State) : Type 0 where
    pub outcome : Outcome Ok before after
    pub one : label_in after.table x ≡ label_in after.table y

  pub join-outcome : {Ok : State → Type 0} (state : State) → Going state → (x y : ℕ) → x < N → y < N → (label_in state.table x ≡ label_in state.table y → ⊥)
      → (w : Written) → Made c k a ns ready run state.cells w 9 x y → count_in state.cells < count_in w.cells
      → United Ok state x y (joined N w.number x y (record { cells = w.cells; table = state.table }))
  join-outcome state g x y hx hy d w m l =
      record {
        one = united j.ends;
        outcome = record {
          going = record {
            sound = j.moved.sound;
            paid = paid-join N (label_in state.table) (label_in after.table) j.from j.to (count_in state.cells) (count_in after.cells) g.paid j.moved.labels apart
                (from-inside j.ends)
                (from-root j.ends)
                (to-root j.ends)
                (omega (arith, size_in_lem state.table j.from N, size_in_lem state.table j.to N, j.smaller))
                (omega (arith, size_in_lem state.table j.from N, j.moved.grown.more, m.grown.more));
          };
          coarser = λ u v hu hv e. j.moved.labels u hu ∙ ap (move j.to j.from) e ∙ sym (j.moved.labels v hv);
          least = omega (arith, j.moved.grown.least);
          under = under-then m.grown.least m.grown.under j.moved.grown.under;
          did = inr (omega (arith, j.moved.grown.least));
        };
      }
    where
      middle : State
      middle = record { cells = w.cells; table = state.table }

      after : State
      after = joined N w.number x y middle

      bound : count_in state.cells ≤ 7018
      bound = paid-most N (label_in state.table) (count_in state.cells) few g.paid

      j : Joined c k a ns ready run middle x y after
      j =
          joined-sound c k a ns ready run few middle (sound-grown c k a ns ready run state g.sound w.cells 9 m.grown) w.number x y hx hy m.shows
          (omega (arith, bound, m.grown.more))

      apart : j.from ≡ j.to → ⊥
      apart e = ⊎_elim (λ o. d (sym o.0 ∙ e ∙ o.1)) (λ o. d (sym o.1 ∙ sym e ∙ o.0)) j.ends

      moved-from : (z : ℕ) → z < N → label_in state.table z ≡ j.from → label_in after.table z ≡ j.to
      moved-from z h e = j.moved.labels z h ∙ ⊎_elim (λ o. o.1) (λ o. absurd (o.0 e)) (move-cases j.to j.from (label_in state.table z))

      moved_to : (z : ℕ) → z < N → label_in state.table z ≡ j.to → label_in after.table z ≡ j.to
      moved_to z h e = j.moved.labels z h ∙ ⊎_elim (λ o. o.1) (λ o. o.1 ∙ e) (move-cases j.to j.from (label_in state.table z))

      united : Ends state x y j.from j.to → label_in after.table x ≡ label_in after.table y
      united (inl o) = moved-from x hx (sym o.0) ∙ sym (moved_to y hy (sym o.1))
      united (inr o) = moved_to x hx (sym o.1) ∙ sym (moved-from y hy (sym o.0))

      from-inside : {p q : ℕ} → Ends state x y p q → p < N
      from-inside (inl o) = rw o.0 (g.sound.inside x hx)
      from-inside (inr o) = rw o.0 (g.sound.inside y hy)

      from-root : {p q : ℕ} → Ends state x y p q → label_in state.table p ≡ p
      from-root (inl o) = rw o.0 (g.sound.settled x hx)
      from-root (inr o) = rw o.0 (g.sound.settled y hy)

      to-root : {p q : ℕ} → Ends state x y p q → label_in state.table q ≡ q
      to-root (inl o) = rw o.1 (g.sound.settled y hy)
      to-root (inr o) = rw o.1 (g.sound.settled x hx)

  -- two entries that a step of its own says are equal
  pair-outcome : (kind number : ℕ) (state : State) → Going state → (x y : ℕ) → x < N → y < N
      → (count_in state.cells < most_each → Made c k a ns ready run state.cells (pushed state.cells kind x y number 0 0 0) 1 x y)
      → United (λ s. Unit {0}) state x y (pair_joined N kind x y number state)
  unfolding pair_joined
  pair-outcome kind number state g x y hx hy made = go (eqb (label_in state.table x) (label_in state.table y)) refl
    where
      room : count_in state.cells < most_each
      room = omega (arith, paid-most N (label_in state.table) (count_in state.cells) few g.paid)

      w : Written
      w = pushed state.cells kind x y number 0 0 0

      m : Made c k a ns ready run state.cells w 1 x y
      m = made room

      go : (b : Bool) → eqb (label_in state.table x) (label_in state.table y) ≡ b → United (λ s. Unit {0}) state x y (pair_joined N kind x y number state)
      go true e = rw (e, pair_joined) (record { outcome = unchanged state g tt; one = eqb-true _ _ e })
      go false e =
          rw (e, pair_joined)
          (join-outcome state g x y hx hy (eqb-false _ _ e) w
          (record { grown = grown-most c k a ns ready run 9 (omega arith) m.grown; shows = m.shows })
          (omega (arith, count-pushed (length c.rows) run.from run.owner state.cells kind x y number 0 0 0 g.sound.good.long room)))

  -- ---- the added equation

  pub added-joined : (state : State) → Going state → (x y : ℕ) → x < N → y < N → UnequalAt c k a run.owner (term c k a ns ready x) (term c k a ns ready y)
      → United (λ s. Unit {0}) state x y (added_pair N x y state)
  unfolding added_pair
  added-joined state g x y hx hy e =
      pair-outcome 6 0 state g x y hx hy (λ room. added-made c k a ns ready run state.cells g.sound.good room x y hx hy e)

  -- ---- stated equations

  abbrev eqs : List (ℕ × ℕ)
  eqs = numbered ns (equations c)

  row-term : (x : ℕ) → x < length c.rows → term c k a ns ready (number_at ns x) ≡ term_at c.rows x
  row-term x h =
      number-term c k a ns ready x (omega arith) ∙ entry_row c.rows a ready.formed.fit.ordered k.patterns ready.chosen x h

  state_one-outcome : (i : ℕ) → i < length eqs → (state : State) → Going state → United (λ s. Unit {0}) state (left_at eqs i) (right_at eqs i) (state_one N eqs i state)
  unfolding state_one stated_pair
  state_one-outcome i h state g =
      pair-outcome 1 (i + 1) state g l r hl hr (λ room. stated-made c k a ns ready run state.cells g.sound.good room l r hl hr (i + 1) pair)
    where
      l : ℕ
      l = left_at eqs i

      r : ℕ
      r = right_at eqs i

      within : i < length (equations c)
      within = omega (arith, length-numbered ns (equations c))

      lower : (left_at (equations c) i < length c.rows) × (right_at (equations c) i < length c.rows)
      lower = ready.formed.fit.within i within

      le : l ≡ number_at ns (left_at (equations c) i)
      le = numbered-left ns (equations c) i within

      re : r ≡ number_at ns (right_at (equations c) i)
      re = numbered-right ns (equations c) i within

      hl : l < N
      hl = rw le (number-inside c k a ns ready (left_at (equations c) i) (omega (arith, lower.0)))

      hr : r < N
      hr = rw re (number-inside c k a ns ready (right_at (equations c) i) (omega (arith, lower.1)))

      pair : PairAt c.rows (equations c) (i + 1) (term c k a ns ready l) (term c k a ns ready r)
      pair =
          record {
            place = i;
            counted = omega arith;
            inside = within;
            left = ap (term c k a ns ready) le ∙ row-term (left_at (equations c) i) lower.0;
            right = ap (term c k a ns ready) re ∙ row-term (right_at (equations c) i) lower.1;
          }

  -- the first n equations are joined
  pub record Stated (n : ℕ) (state : State) : Type 0 where
    pub going : Going state
    pub one : (i : ℕ) → i < n → label_in state.table (left_at eqs i) ≡ label_in state.table (right_at eqs i)

  pub inside : (i : ℕ) → i < length eqs → (left_at eqs i < N) × (right_at eqs i < N)
  inside i h =
      let l : i < length (equations c) = omega (arith, length-numbered ns (equations c)) in
      let b : (left_at (equations c) i < length c.rows) × (right_at (equations c) i < length c.rows) = ready.formed.fit.within i l in (
        rw (numbered-left ns (equations c) i l) (number-inside c k a ns ready (left_at (equations c) i) (omega (arith, b.0))),
        rw (numbered-right ns (equations c) i l) (number-inside c k a ns ready (right_at (equations c) i) (omega (arith, b.1))),
      )

  stated-to : (n : ℕ) → n ≤ length eqs → (state : State) → Going state → Stated n (upto n (state_one N eqs) state)
  unfolding upto
  stated-to zero h state g = record { going = g; one = λ i l. absurd (omega arith) }
  stated-to (suc n) h state g =
      let before : Stated n (upto n (state_one N eqs) state) = stated-to n (omega arith) state g in
      let u : United (λ s. Unit {0}) (upto n (state_one N eqs) state) (left_at eqs n) (right_at eqs n) (state_one N eqs n (upto n (state_one N eqs) state)) =
      state_one-outcome n (omega arith) (upto n (state_one N eqs) state) before.going in
      record { going = u.outcome.going; one = λ i l. at before u i l (eqb i n) refl }
    where
      at : Stated n (upto n (state_one N eqs) state)
          → United (λ s. Unit {0}) (upto n (state_one N eqs) state) (left_at eqs n) (right_at eqs n) (state_one N eqs n (upto n (state_one N eqs) state))
          → (i : ℕ) → i < suc n → (b : Bool) → eqb i n ≡ b
          → label_in (state_one N eqs n (upto n (state_one N eqs) state)).table (left_at eqs i) ≡ label_in (state_one N eqs n (upto n (state_one N eqs) state)).table (right_at eqs i)
      at before u i l true e = rw (eqb-true i n e) u.one
      at before u i l false e =
          let b : i < n = omega (arith, eqb-false i n e) in
          u.outcome.coarser (left_at eqs i) (right_at eqs i) (inside i (omega arith)).0 (inside i (omega arith)).1 (before.one i b)

  pub stated-joined : (state : State) → Going state → Stated (length eqs) (stated N eqs state)
  unfolding stated
  stated-joined state g = stated-to (length eqs) (omega arith) state g

-- ---- shared steps for an owner

module _ (c : Context) (k : Clause) (a : List ℕ) (ns : List ℕ) (ready : Ready c k a ns) (few : length c.rows + length k.patterns ≤ most_entries) (run : Run c k a) where
  pub going-owned : (state : State) → Going c k a ns ready few (shared-run c k a) state → (other : List ℕ)
      → count_in state.cells ≡ run.from
      → count_in other ≡ run.from
      → Under run.from state.cells other
      → Going c k a ns ready few run (record { cells = other; table = state.table })
  going-owned state g other all-shared no-others under =
      record {
        sound = sound-owned c k a ns ready run state g.sound other all-shared no-others under;
        paid = paid-fewer (count_in other) (omega (arith, all-shared, no-others)) g.paid;
      }
