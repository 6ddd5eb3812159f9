-- Lines written one behind the other as long as there is room: the turns and the ways out of `fill`.
--     Filling, filling-start, filling-next     so many lines are written; none; one more
--     filling-wait, filling-done               there is no room for the next line; there is none
--     fills_one                                two answers to one call are equal
--     fills-rest                               what is written and the lines from the next item on are the lines from the first on
--     fills-on                                 with room for 51 bytes the next item is a later one
-- Assumes nothing.
use mathlib.Core.Bool.{Bool, true, false}
use mathlib.Core.List.{List, ◌++◌, append-nil, append_assoc}
use mathlib.Core.Path.{◌≡◌, refl, sym, ap, ap₂, ◌∙◌, subst}
use mathlib.Core.Logic.{◌⊎◌, inl, inr}
use Rattle.std.specs.Prelude.{max}
use Prim.Native.Nat.{ℕ, zero, suc, ◌+◌, ◌-◌, ◌≤◌, ◌<◌}
use native.Mathlib.Nat.{add-zero}
use native.Mathlib.Numerals.{add-one}
use native.Mathlib.Omega.{arith}
use borrow.Author.Rules.{rules}
use borrow.Author.Tests.{ltb-true, ltb-false, le-leb, lt-leb}
use lib.Dec.{ltb, leb}
use lib.ListN.{length, drop, length-append}
use lib.Seq.{sets, sets-eq, length-sets}
use Rattle.grounds_verdict.specs.declared.Conclusions.{Conclusions}
use Rattle.reply_lines.specs.Pieces.{run}
use Rattle.reply_lines.proofs.Stores.{sets-append}
use Rattle.reply_lines.proofs.Running.{run-snoc}
use Rattle.grounds_lines.specs.declared.Filled.{Filled}
use Rattle.grounds_lines.specs.Lines.{item_frame, size_at}
use Rattle.grounds_lines.specs.Filling.{step_count, item_count, line_in, frames_from, fitting, count_from, fills_from, Fills, ItemRoom}
use Rattle.grounds_lines.proofs.Frames.{length-item, size_step, size-end}

-- ---- how many pieces have room

module _ (piece : ℕ → List ℕ) where
  fitting-next : (room p k : ℕ) → length (piece p) ≤ room → fitting piece room p (suc k) ≡ suc (fitting piece (room - length (piece p)) (suc p) k)
  unfolding fitting
  fitting-next room p k h = rw (fitting, le-leb (length (piece p)) room h) refl

  fitting-short : (room p k : ℕ) → room < length (piece p) → fitting piece room p k ≡ 0
  unfolding fitting
  fitting-short room p zero h = refl
  fitting-short room p (suc k) h = rw (fitting, lt-leb (length (piece p)) room h) refl

  fitting-few : (room p k : ℕ) → fitting piece room p k ≤ k
  unfolding fitting
  fitting-few room p zero = omega arith
  fitting-few room p (suc k) = go (leb (length (piece p)) room) (fitting-few (room - length (piece p)) (suc p) k)
    where
      go : (b : Bool) → fitting piece (room - length (piece p)) (suc p) k ≤ k
          → elim b [ true ↦ suc (fitting piece (room - length (piece p)) (suc p) k) | false ↦ zero ] ≤ suc k
      go true h = omega arith
      go false h = omega arith

  pub run-append : (p a b : ℕ) → run piece p (a + b) ≡ run piece p a ++ run piece (p + a) b
  unfolding run
  run-append p a zero = ap (run piece p) (add-zero a) ∙ sym (append-nil (run piece p a))
  run-append p a (suc b) =
      let e : a + suc b ≡ suc (a + b) = omega arith in
      let f : p + (a + b) ≡ (p + a) + b = omega arith in
      ap (run piece p) e ∙ run-snoc piece p (a + b) ∙ ap₂ (λ (x : List ℕ) (i : ℕ). x ++ piece i) (run-append p a b) f
      ∙ append_assoc (run piece p a) (run piece (p + a) b) (piece ((p + a) + b)) ∙ ap (λ (x : List ℕ). run piece p a ++ x) (sym (run-snoc piece (p + a) b))

-- ---- the loop

module _ (steps : List (List ℕ)) (n : ℕ) (d : Conclusions) (from end : ℕ) (lent : List ℕ) where
  abbrev piece : ℕ → List ℕ
  piece = item_frame steps n d

  pub record Filling (used at : ℕ) (after : List ℕ) : Type 0 where
    pub count : ℕ
    pub place : at ≡ from + count
    pub reach : (at ≤ end) ⊎ (at ≡ from)
    pub size : used ≡ length (run piece from count)
    pub within : used ≤ length lent
    pub long : length after ≡ length lent
    pub stored : after ≡ sets lent 0 (run piece from count)
    pub onward : fitting piece (length lent) from (end - from) ≡ count + fitting piece (length lent - used) at (end - at)

  pub filling-start : Filling 0 from lent
  unfolding run
  filling-start =
      record {
        count = 0;
        place = omega arith;
        reach = inr refl;
        size = refl;
        within = omega arith;
        long = refl;
        stored = refl;
        onward = let e : length lent - 0 ≡ length lent = omega arith in rw e (omega arith);
      }

  module _ (used at : ℕ) (after : List ℕ) (f : Filling used at after) where
    pub filling-next : at < end → (len : ℕ) → len ≡ size_at n at → len ≤ length after - used → (new : List ℕ) → new ≡ sets after used (piece at)
        → Filling (used + len) (at + 1) new
    filling-next h len s room new e =
        record {
          count = suc f.count;
          place = omega (arith, f.place);
          reach = inl (omega arith);
          size = omega (arith, f.size, ap length one, length-append (run piece from f.count) (piece at), long);
          within = omega (arith, f.within, f.long);
          long = ap length e ∙ length-sets after used (piece at) ∙ f.long;
          stored =
              e ∙ ap₂ (λ (l : List ℕ) (i : ℕ). sets l i (piece at)) f.stored (omega (arith, f.size))
              ∙ sym (sets-append (run piece from f.count) (piece at) lent 0) ∙ ap (sets lent 0) (sym one);
          onward = f.onward ∙ omega (arith, more);
        }
      where
        long : length (piece at) ≡ len
        long = length-item steps n d at ∙ sym s

        one : run piece from (suc f.count) ≡ run piece from f.count ++ piece at
        one = run-snoc piece from f.count ∙ ap (λ (i : ℕ). run piece from f.count ++ piece i) (sym f.place)

        more : fitting piece (length lent - used) at (end - at) ≡ suc (fitting piece (length lent - (used + len)) (at + 1) (end - (at + 1)))
        more =
            let a : end - at ≡ suc (end - (at + 1)) = omega arith in
            let b : (length lent - used) - length (piece at) ≡ length lent - (used + len) = omega (arith, long) in
            ap (fitting piece (length lent - used) at) a
            ∙ fitting-next piece (length lent - used) at (end - (at + 1)) (omega (arith, long, f.long))
            ∙ ap₂ (λ (i j : ℕ). suc (fitting piece i j (end - (at + 1)))) b (sym (add-one at))

    -- the lines end here
    ends : fitting piece (length lent - used) at (end - at) ≡ 0 → (many literals : ℕ) → n ≡ step_count steps many
        → end ≡ item_count steps many literals
        → Fills steps many d literals from lent (record { used = used; next = at }) after
    ends e many literals en ee =
        record {
          next = f.place ∙ ap (λ (k : ℕ). from + k) (sym counted);
          used = f.size ∙ ap length (sym written);
          stored = f.stored ∙ sets-eq (run piece from f.count) lent 0 (omega (arith, f.size, f.within)) ∙ ap₂ (λ (l : List ℕ) (k : ℕ). l ++ drop k lent) (sym written) front;
        }
      where
        counted : count_from steps many d literals from (length lent) ≡ f.count
        counted =
            ap₂ (λ (i j : ℕ). fitting (item_frame steps i d) (length lent) from (j - from)) (sym en) (sym ee) ∙ f.onward ∙ omega (arith, e)

        front : 0 + length (run piece from f.count) ≡ used
        front = omega (arith, f.size)

        written : fills_from steps many d literals from (length lent) ≡ run piece from f.count
        written = ap₂ (λ (i k : ℕ). run (item_frame steps i d) from k) (sym en) counted

    pub filling-wait : (len : ℕ) → len ≡ size_at n at → length after - used < len → (many literals : ℕ) → n ≡ step_count steps many
        → end ≡ item_count steps many literals
        → Fills steps many d literals from lent (record { used = used; next = at }) after
    filling-wait len s short =
        ends (fitting-short piece (length lent - used) at (end - at) (omega (arith, length-item steps n d at, f.long)))

    at-end : end ≤ at → at ≡ max from end
    at-end h = go f.reach
      where
        go : (at ≤ end) ⊎ (at ≡ from) → at ≡ max from end
        go (inl l) = omega (arith, f.place)
        go (inr e) = omega arith

    pub filling-done : end ≤ at → (next : ℕ) → next ≡ max from end → (many literals : ℕ) → n ≡ step_count steps many → end ≡ item_count steps many literals
        → Fills steps many d literals from lent (record { used = used; next = next }) after
    unfolding fitting
    filling-done h next en many literals e f' =
        let z : end - at ≡ 0 = omega arith in
        subst (λ (k : ℕ). Fills steps many d literals from lent (record { used = used; next = k }) after) (at-end h ∙ sym en)
        (ends (ap (fitting piece (length lent - used) at) z) many literals e f')

    pub filling-room : at < end → (len : ℕ) → len ≡ size_at n at → len ≤ length after - used → (many literals : ℕ)
        → n ≡ step_count steps many → end ≡ item_count steps many literals → ItemRoom steps n at after used
    filling-room h len s room many literals en ee =
        record {
          inside = omega arith;
          few = omega arith;
          room = omega (arith, f.within, f.long);
        }

pub ruleset mine = (rules, filling-start, filling-next, filling-wait, filling-done, filling-room)

-- ---- what the contract says

module _ (steps : List (List ℕ)) (many : ℕ) (d : Conclusions) (literals from : ℕ) where
  pub fills_one : (lent : List ℕ) (q r : Filled) (a b : List ℕ) → Fills steps many d literals from lent q a
      → Fills steps many d literals from lent r b → (q ≡ r) × (a ≡ b)
  fills_one lent q r a b v w =
      let u : q.used ≡ r.used = v.used ∙ sym w.used in (
        ap₂ (λ (i j : ℕ). record { used = i; next = j }) u (v.next ∙ sym w.next),
        v.stored ∙ ap (λ (i : ℕ). fills_from steps many d literals from (length lent) ++ drop i lent) u ∙ sym w.stored,
      )

  pub fills-rest : (room : ℕ) → frames_from steps many d literals from
      ≡ fills_from steps many d literals from room
      ++ frames_from steps many d literals (from + count_from steps many d literals from room)
  fills-rest room =
      let k : ℕ = count_from steps many d literals from room in
      let m : ℕ = item_count steps many literals in
      let h : k ≤ m - from = fitting-few (line_in steps many d) room from (m - from) in
      let e : m - from ≡ k + (m - (from + k)) = omega arith in
      ap (run (line_in steps many d) from) e ∙ run-append (line_in steps many d) from k (m - (from + k))

  pub fills-on : (room : ℕ) → 51 ≤ room → from < item_count steps many literals → 0 < count_from steps many d literals from room
  fills-on room h l =
      let m : ℕ = item_count steps many literals in
      let e : m - from ≡ suc (m - (from + 1)) = omega arith in
      rw e (rw (fitting-next (line_in steps many d) room from (m - (from + 1)) (omega (arith, short from))) (omega arith))
    where
      short : (p : ℕ) → length (line_in steps many d p) ≤ 51
      short p = go (ltb p (step_count steps many)) refl
        where
          go : (t : Bool) → ltb p (step_count steps many) ≡ t → length (line_in steps many d p) ≤ 51
          go true e =
              omega (arith, length-item steps (step_count steps many) d p, size_step (step_count steps many) p (ltb-true p (step_count steps many) e))
          go false e =
              omega (arith, length-item steps (step_count steps many) d p, size-end (step_count steps many) p (ltb-false p (step_count steps many) e))
