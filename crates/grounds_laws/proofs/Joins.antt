-- Two classes become one, and each entry still has a step for its label.
--     Sound                     what holds of steps and classes from the start to the end
--     same-made, bridge-made    a step for two entries with one label; for two labels
--     Moved, moved-sound        the entries with one label have another
--     Joined, joined-sound      the smaller of two classes has moved
--     sound-owned               classes of shared steps are those of a run after them
-- Assumes nothing.
use mathlib.Core.Bool.{Bool, true, false}
use mathlib.Core.List.{List}
use mathlib.Core.Path.{◌≡◌, refl, ap, sym, ◌∙◌, subst}
use mathlib.Core.Logic.{◌⊎◌, inl, inr, ⊎_elim}
use Prim.Native.Nat.{ℕ, zero, suc, ◌+◌, ◌*◌, ◌≤◌, ◌<◌}
use native.Mathlib.Omega.{arith}
use lib.Dec.{eqb, ltb, leb}
use borrow.Author.Tests.{eqb-true, eqb-false, ltb-true, ltb-false, lt-ltb, leb-true, leb-false}
use lib.ListN.{length, set, length-set}
use lib.Seq.{get_or-set_same, get_or-set_other}
use Rattle.meaning.specs.Context.{Context}
use Rattle.meaning.specs.Rules.{Clause}
use Rattle.meaning.specs.Values.{number_at}
use Rattle.meaning.specs.Closing.{move}
use Rattle.meaning.proofs.Cited.{Ready}
use Rattle.meaning.proofs.Progress.{move-cases}
use Rattle.grounds_numbers.specs.Limits.{most_entries}
use Rattle.grounds_steps.specs.Steps.{most_each}
use Rattle.grounds_laws.specs.Limits.{class_size}
use Rattle.grounds_laws.specs.Draft.{count_in, Written, turned, linked}
use Rattle.grounds_laws.specs.Classes.{label_in, why_in, State, upto, own_step, same, bridge, size_in, carry, carried, moved, joined, state_of, labelled}
use Rattle.grounds_laws.proofs.Drafts.{Under}
use Rattle.grounds_laws.proofs.Builds.{Run, shared-run, all, Steps, Shows, Grown, Made, grown-none, grown-then, grown-most, turned-made, linked-made, steps-owned, shows-owned}

pub size-most : (table : List ℕ) (p n : ℕ) → size_in table p n ≤ n
unfolding size_in
size-most table p zero = omega arith
size-most table p (suc n) = go (eqb (label_in table n) p) refl (size-most table p n)
  where
    go : (b : Bool) → eqb (label_in table n) p ≡ b → size_in table p n ≤ n → size_in table p (suc n) ≤ suc n
    go true e h = rw (e, size_in) (omega arith)
    go false e h = rw (e, size_in) (omega arith)

-- ---- places of a table after entry z gets a label and a step

module _ (table : List ℕ) (z q v : ℕ) where
  pub length-fresh : length (labelled table z q v) ≡ length table
  length-fresh = length-set (set table (z * class_size) q) (z * class_size + 1) v ∙ length-set table (z * class_size) q

  pub label-other : (j : ℕ) → (j ≡ z → ⊥) → label_in (labelled table z q v) j ≡ label_in table j
  label-other j d =
      get_or-set_other (set table (z * class_size) q) (z * class_size + 1) (j * class_size) v 0 (λ e. omega arith)
      ∙ get_or-set_other table (z * class_size) (j * class_size) q 0 (λ e. d (omega arith))

  pub why-other : (j : ℕ) → (j ≡ z → ⊥) → why_in (labelled table z q v) j ≡ why_in table j
  why-other j d =
      get_or-set_other (set table (z * class_size) q) (z * class_size + 1) (j * class_size + 1) v 0 (λ e. d (omega arith))
      ∙ get_or-set_other table (z * class_size) (j * class_size + 1) q 0 (λ e. omega arith)

  module _ (inside : z * class_size + 1 < length table) where
    pub label-fresh : label_in (labelled table z q v) z ≡ q
    label-fresh =
        get_or-set_other (set table (z * class_size) q) (z * class_size + 1) (z * class_size) v 0 (λ e. omega arith)
        ∙ get_or-set_same table (z * class_size) q 0 (omega arith)

    pub why-fresh : why_in (labelled table z q v) z ≡ v
    why-fresh = get_or-set_same (set table (z * class_size) q) (z * class_size + 1) v 0 (omega (arith, length-set table (z * class_size) q))

module _ (c : Context) (k : Clause) (a : List ℕ) (ns : List ℕ) (ready : Ready c k a ns) (run : Run c k a) where
  abbrev N : ℕ
  N = all c k a ns ready

  abbrev Show : List ℕ → ℕ → ℕ → ℕ → Type 0
  Show = Shows c k a ns ready run

  -- each entry x has its own step x + 1, x = its number
  pub record Sound (state : State) : Type 0 where
    pub good : Steps c k a ns ready run state.cells
    pub long : N * class_size ≤ length state.table
    pub own : (x : ℕ) → x < N → Show state.cells (x + 1) x (number_at ns x)
    pub inside : (x : ℕ) → x < N → label_in state.table x < N
    pub why : (x : ℕ) → x < N → Show state.cells (why_in state.table x) x (label_in state.table x)
    pub like : (x : ℕ) → x < N → label_in state.table x ≡ label_in state.table (number_at ns x)
    pub settled : (x : ℕ) → x < N → label_in state.table (label_in state.table x) ≡ label_in state.table x

  -- the same classes after more steps
  pub sound-grown : (state : State) → Sound state → (cells : List ℕ) (j : ℕ) → Grown c k a ns ready run state.cells cells j
      → Sound (state_of cells state.table)
  sound-grown state w cells j g =
      record {
        good = g.good;
        long = w.long;
        own = λ x h. g.keeps _ _ _ (w.own x h);
        inside = w.inside;
        why = λ x h. g.keeps _ _ _ (w.why x h);
        like = w.like;
        settled = w.settled;
      }

  module _ (state : State) (w : Sound state) where
    abbrev cells : List ℕ
    cells = state.cells

    abbrev table : List ℕ
    table = state.table

    abbrev label : ℕ → ℕ
    label x = label_in state.table x

    abbrev why' : ℕ → ℕ
    why' x = why_in state.table x

    pub same-made : (x y : ℕ) → x < most_each → x < N → y < N → number_at ns x ≡ x → label x ≡ label y → count_in cells + 2 ≤ most_each
        → Made c k a ns ready run cells (same cells table x y) 2 x y
    unfolding same own_step
    same-made x y small hx hy own e room = go (eqb x y) refl
      where
        back : Written
        back = turned cells (why' y) y (label y)

        b : Made c k a ns ready run cells back 1 (label y) y
        b = turned-made c k a ns ready run cells w.good (omega arith) (why' y) y (label y) hy (w.inside y hy) (w.why y hy)

        m : Made c k a ns ready run back.cells (linked back.cells (why' x) back.number x (label x) y) 1 x y
        m =
            linked-made c k a ns ready run back.cells b.grown.good (omega (arith, b.grown.more)) (why' x) back.number x (label x) y hx hy
            (b.grown.keeps _ _ _ (w.why x hx))
            (subst (λ (i : ℕ). Show back.cells back.number i y) (sym e) b.shows)

        go : (d : Bool) → eqb x y ≡ d → Made c k a ns ready run cells (same cells table x y) 2 x y
        go true q =
            rw (q, same, lt-ltb x most_each small, own_step)
            (record {
              grown = grown-none c k a ns ready run cells w.good 2;
              shows = subst (λ (i : ℕ). Show cells (x + 1) x i) (own ∙ eqb-true x y q) (w.own x hx);
            })
        go false q = rw (q, same) (record { grown = grown-then c k a ns ready run b.grown m.grown; shows = m.shows })

    pub bridge-made : (s x y : ℕ) → x < N → y < N → Show cells s x y → count_in cells + 3 ≤ most_each
        → Made c k a ns ready run cells (bridge cells table s x y) 3 (label x) (label y)
    unfolding bridge
    bridge-made s x y hx hy e room =
        record { grown = grown-then c k a ns ready run (grown-then c k a ns ready run b.grown o.grown) m.grown; shows = m.shows }
      where
        back : Written
        back = turned cells (why' x) x (label x)

        b : Made c k a ns ready run cells back 1 (label x) x
        b = turned-made c k a ns ready run cells w.good (omega arith) (why' x) x (label x) hx (w.inside x hx) (w.why x hx)

        over : Written
        over = linked back.cells back.number s (label x) x y

        o : Made c k a ns ready run back.cells over 1 (label x) y
        o =
            linked-made c k a ns ready run back.cells b.grown.good (omega (arith, b.grown.more)) back.number s (label x) x y (w.inside x hx) hy b.shows
            (b.grown.keeps _ _ _ e)

        m : Made c k a ns ready run over.cells (linked over.cells over.number (why' y) (label x) y (label y)) 1 (label x) (label y)
        m =
            linked-made c k a ns ready run over.cells o.grown.good (omega (arith, b.grown.more, o.grown.more)) over.number (why' y) (label x) y (label y)
            (w.inside x hx)
            (w.inside y hy)
            o.shows
            (o.grown.keeps _ _ _ (b.grown.keeps _ _ _ (w.why y hy)))

  -- ---- the entries with label p get label q

  module _ (few : N ≤ most_entries) (start : State) (w : Sound start) (s p q : ℕ) (hq : q < N) (shown : Show start.cells s p q)
      (room : count_in start.cells + N ≤ most_each) where
    -- after the first n entries
    record Carrying (n : ℕ) (state : State) : Type 0 where
      grown : Grown c k a ns ready run start.cells state.cells (size_in start.table p n)
      long : length state.table ≡ length start.table
      done : (z : ℕ) → z < n → label_in state.table z ≡ move q p (label_in start.table z)
      rest : (z : ℕ) → n ≤ z → z < N → label_in state.table z ≡ label_in start.table z
      why : (z : ℕ) → z < N → Show state.cells (why_in state.table z) z (label_in state.table z)

    carry-next : (n : ℕ) → n < N → (state : State) → Carrying n state → Carrying (suc n) (carry s p q n state)
    unfolding carry size_in
    carry-next n h state g = go (eqb (label_in state.table n) p) refl (move-cases q p (label_in start.table n))
      where
        same-label : label_in state.table n ≡ label_in start.table n
        same-label = g.rest n (omega arith) h

        go : (b : Bool) → eqb (label_in state.table n) p ≡ b
            → ((label_in start.table n ≡ p) × (move q p (label_in start.table n) ≡ q))
            ⊎ ((label_in start.table n ≡ p → ⊥) × (move q p (label_in start.table n) ≡ label_in start.table n))
            → Carrying (suc n) (carry s p q n state)
        go true e (inr v) = absurd (v.0 (sym same-label ∙ eqb-true _ p e))
        go false e (inl v) = absurd (eqb-false (label_in state.table n) p e (same-label ∙ v.0))
        go false e (inr v) =
            rw (e, carry)
            (record {
              grown = subst (Grown c k a ns ready run start.cells state.cells) counted g.grown;
              long = g.long;
              done = λ z l. at z (ltb z n) refl l;
              rest = λ z l r. g.rest z (omega arith) r;
              why = g.why;
            })
          where
            counted : size_in start.table p n ≡ size_in start.table p (suc n)
            counted = let x : eqb (label_in start.table n) p ≡ false = subst (λ (i : ℕ). eqb i p ≡ false) same-label e in rw (x, size_in)

            at : (z : ℕ) (b : Bool) → ltb z n ≡ b → z < suc n → label_in state.table z ≡ move q p (label_in start.table z)
            at z true x l = g.done z (ltb-true z n x)
            at z false x l = let y : z ≡ n = omega (arith, ltb-false z n x) in rw y (same-label ∙ sym v.1)
        go true e (inl v) =
            rw (e, carry)
            (record {
              grown = subst (Grown c k a ns ready run start.cells u.cells) counted (grown-then c k a ns ready run g.grown m.grown);
              long = length-fresh state.table n q u.number ∙ g.long;
              done = λ z l. at z (ltb z n) refl l;
              rest = λ z l r. label-other state.table n q u.number z (λ x. omega arith) ∙ g.rest z (omega arith) r;
              why = λ z l. because z l (eqb z n) refl;
            })
          where
            u : Written
            u = linked state.cells (why_in state.table n) s n p q

            m : Made c k a ns ready run state.cells u 1 n q
            m =
                linked-made c k a ns ready run state.cells g.grown.good (omega (arith, g.grown.more, size-most start.table p n)) (why_in state.table n) s n p q h hq
                (subst (λ (i : ℕ). Show state.cells (why_in state.table n) n i) (eqb-true (label_in state.table n) p e) (g.why n h))
                (g.grown.keeps _ _ _ shown)

            counted : size_in start.table p n + 1 ≡ size_in start.table p (suc n)
            counted = let x : eqb (label_in start.table n) p ≡ true = subst (λ (i : ℕ). eqb i p ≡ true) same-label e in rw (x, size_in)

            at : (z : ℕ) (b : Bool) → ltb z n ≡ b → z < suc n
                → label_in (labelled state.table n q u.number) z ≡ move q p (label_in start.table z)
            at z true x l =
                let y : z < n = ltb-true z n x in
                label-other state.table n q u.number z (λ o. omega arith) ∙ g.done z y
            at z false x l =
                let y : z ≡ n = omega (arith, ltb-false z n x) in rw y (label-fresh state.table n q u.number (omega (arith, g.long, w.long)) ∙ sym v.1)

            because : (z : ℕ) → z < N → (b : Bool) → eqb z n ≡ b
                → Show u.cells (why_in (labelled state.table n q u.number) z) z (label_in (labelled state.table n q u.number) z)
            because z l true x =
                rw (eqb-true z n x, why-fresh state.table n q u.number (omega (arith, g.long, w.long)), label-fresh state.table n q u.number (omega (arith, g.long, w.long))) m.shows
            because z l false x =
                rw (
                  why-other state.table n q u.number z (eqb-false z n x),
                  label-other state.table n q u.number z (eqb-false z n x),
                )
                (m.grown.keeps _ _ _ (g.why z l))

    carry-all : (n : ℕ) → n ≤ N → Carrying n (carried s p q n start)
    unfolding carried upto size_in
    carry-all zero h =
        record {
          grown = grown-none c k a ns ready run start.cells w.good 0;
          long = refl;
          done = λ z l. absurd (omega arith);
          rest = λ z l r. refl;
          why = w.why;
        }
    carry-all (suc n) h = carry-next n (omega arith) (carried s p q n start) (carry-all n (omega arith))

  -- the entries with one label have another, by up to j steps more
  pub record Moved (start : State) (p q j : ℕ) (after : State) : Type 0 where
    pub sound : Sound after
    pub labels : (z : ℕ) → z < N → label_in after.table z ≡ move q p (label_in start.table z)
    pub grown : Grown c k a ns ready run start.cells after.cells j

  carried-moved : N ≤ most_entries → (start : State) → Sound start → (s p q : ℕ) → q < N → label_in start.table q ≡ q → Show start.cells s p q → count_in start.cells + N ≤ most_each
      → Moved start p q (size_in start.table p N) (carried s p q N start)
  carried-moved few start w s p q hq root shown room =
      record {
        sound = record {
          good = g.grown.good;
          long = omega (arith, g.long, w.long);
          own = λ x h. g.grown.keeps _ _ _ (w.own x h);
          inside = λ x h. rw (g.done x h) (in' x h (move-cases q p (label_in start.table x)));
          why = g.why;
          like = λ x h. g.done x h ∙ ap (move q p) (w.like x h) ∙ sym (g.done (number_at ns x) (number_in x h));
          settled = λ x h. rw (g.done x h) (settled' x h (move-cases q p (label_in start.table x)));
        };
        labels = g.done;
        grown = g.grown;
      }
    where
      g : Carrying few start w s p q hq shown room N (carried s p q N start)
      g = carry-all few start w s p q hq shown room N (omega arith)

      number_in : (x : ℕ) → x < N → number_at ns x < N
      number_in x h = omega (arith, ready.faithful.low x h)

      in' : (x : ℕ) → x < N
          → ((label_in start.table x ≡ p) × (move q p (label_in start.table x) ≡ q))
          ⊎ ((label_in start.table x ≡ p → ⊥) × (move q p (label_in start.table x) ≡ label_in start.table x))
          → move q p (label_in start.table x) < N
      in' x h (inl v) = rw v.1 hq
      in' x h (inr v) = rw v.1 (w.inside x h)

      settled' : (x : ℕ) → x < N
          → ((label_in start.table x ≡ p) × (move q p (label_in start.table x) ≡ q))
          ⊎ ((label_in start.table x ≡ p → ⊥) × (move q p (label_in start.table x) ≡ label_in start.table x))
          → label_in (carried s p q N start).table (move q p (label_in start.table x)) ≡ move q p (label_in start.table x)
      settled' x h (inl v) = rw v.1 (g.done q hq ∙ ap (move q p) root ∙ ⊎_elim (λ o. o.1) (λ o. o.1) (move-cases q p q))
      settled' x h (inr v) =
          rw v.1 (g.done (label_in start.table x) (w.inside x h) ∙ ap (move q p) (w.settled x h) ∙ v.1)

  moved-sound : N ≤ most_entries → (start : State) → Sound start → (s x y : ℕ) → x < N → y < N → Show start.cells s x y → count_in start.cells + 3 + N ≤ most_each
      → Moved start (label_in start.table x) (label_in start.table y) (3 + size_in start.table (label_in start.table x) N) (moved N s x y start)
  unfolding moved
  moved-sound few start w s x y hx hy shown room =
      record { sound = m.sound; labels = m.labels; grown = grown-then c k a ns ready run b.grown m.grown }
    where
      u : Written
      u = bridge start.cells start.table s x y

      b : Made c k a ns ready run start.cells u 3 (label_in start.table x) (label_in start.table y)
      b = bridge-made start w s x y hx hy shown (omega arith)

      middle : State
      middle = state_of u.cells start.table

      m : Moved middle (label_in start.table x) (label_in start.table y) (size_in start.table (label_in start.table x) N)
          (carried u.number (label_in start.table x) (label_in start.table y) N middle)
      m =
          carried-moved few middle (sound-grown start w u.cells 3 b.grown) u.number (label_in start.table x) (label_in start.table y) (w.inside y hy) (w.settled y hy)
          b.shows
          (omega (arith, b.grown.more))

  -- the class of the label `from` is the smaller one, and has moved to the label `to`
  pub record Joined (start : State) (x y : ℕ) (after : State) : Type 0 where
    pub from : ℕ
    pub to : ℕ
    pub ends : ((from ≡ label_in start.table x) × (to ≡ label_in start.table y)) ⊎ ((from ≡ label_in start.table y) × (to ≡ label_in start.table x))
    pub smaller : size_in start.table from N ≤ size_in start.table to N
    pub moved : Moved start from to (4 + size_in start.table from N) after

  pub joined-sound : N ≤ most_entries → (start : State) → Sound start → (s x y : ℕ) → x < N → y < N → Show start.cells s x y → count_in start.cells + 4 + N ≤ most_each
      → Joined start x y (joined N s x y start)
  unfolding joined
  joined-sound few start w s x y hx hy shown room = go (leb (size (label_in start.table x)) (size (label_in start.table y))) refl
    where
      size : ℕ → ℕ
      size p = size_in start.table p N

      go : (b : Bool) → leb (size (label_in start.table x)) (size (label_in start.table y)) ≡ b → Joined start x y (joined N s x y start)
      go true e =
          let m : Moved start (label_in start.table x) (label_in start.table y) (3 + size (label_in start.table x)) (moved N s x y start) =
          moved-sound few start w s x y hx hy shown (omega arith) in
          rw (e, joined)
          (record {
            from = label_in start.table x;
            to = label_in start.table y;
            ends = inl (refl, refl);
            smaller = leb-true (size (label_in start.table x)) (size (label_in start.table y)) e;
            moved = record {
              sound = m.sound;
              labels = m.labels;
              grown = grown-most c k a ns ready run (4 + size (label_in start.table x)) (omega arith) m.grown;
            };
          })
      go false e =
          rw (e, joined)
          (record {
            from = label_in start.table y;
            to = label_in start.table x;
            ends = inr (refl, refl);
            smaller = omega (arith, leb-false (size (label_in start.table x)) (size (label_in start.table y)) e);
            moved = record {
              sound = m.sound;
              labels = m.labels;
              grown = grown-most c k a ns ready run (4 + size (label_in start.table y)) (omega arith) (grown-then c k a ns ready run b.grown m.grown);
            };
          })
        where
          u : Written
          u = turned start.cells s x y

          b : Made c k a ns ready run start.cells u 1 y x
          b = turned-made c k a ns ready run start.cells w.good (omega arith) s x y hx hy shown

          middle : State
          middle = state_of u.cells start.table

          m : Moved middle (label_in start.table y) (label_in start.table x) (3 + size (label_in start.table y)) (moved N u.number y x middle)
          m = moved-sound few middle (sound-grown start w u.cells 1 b.grown) u.number y x hy hx b.shows (omega (arith, b.grown.more))

-- ---- shared steps for an owner

module _ (c : Context) (k : Clause) (a : List ℕ) (ns : List ℕ) (ready : Ready c k a ns) (run : Run c k a) where
  -- classes of shared steps are those of a run after them, whatever stands behind them in the column
  pub sound-owned : (state : State) → Sound c k a ns ready (shared-run c k a) state → (other : List ℕ)
      → count_in state.cells ≡ run.from
      → count_in other ≡ run.from
      → Under run.from state.cells other
      → Sound c k a ns ready run (state_of other state.table)
  sound-owned state w other all-shared no-others under =
      record {
        good = steps-owned c k a ns ready run state.cells other all-shared no-others under w.good.follow w.good.long;
        long = w.long;
        own = λ x h. shows-owned c k a ns ready run state.cells other all-shared no-others under _ _ _ (w.own x h);
        inside = w.inside;
        why = λ x h. shows-owned c k a ns ready run state.cells other all-shared no-others under _ _ _ (w.why x h);
        like = w.like;
        settled = w.settled;
      }
