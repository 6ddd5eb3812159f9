-- The list written line by line: the turns and the ways out of `fill`.
--     Filling                          what was written so far, and that whatever follows from here on follows it
--     filling-start, filling_step      nothing is written; one line more
--     filling-stop, filling-wait       nothing comes any more; there is no room for the next line
--     runs-one, fills_one              two answers to one call are equal
-- Assumes nothing.
use mathlib.Core.List.{List, [], ◌∷◌, ◌++◌, append-nil, append_assoc}
use mathlib.Core.Path.{◌≡◌, refl, sym, ap, ap₂, subst, ◌∙◌}
use Prim.Native.Nat.{ℕ, ◌+◌, ◌-◌, ◌≤◌, ◌<◌}
use native.Mathlib.Omega.{arith}
use borrow.Rule.Slice.PartMut.{put_mid, same_len_mid}
use borrow.Author.Rules.{rules}
use lib.ListN.{length, take, drop, replicate, length-append, length-drop}
use lib.Seq.{take_at, drop_at, drop-drop, length-take-le}
use Rattle.meaning.specs.Context.{Context}
use Rattle.meaning.specs.Rules.{Clause, Found}
use Rattle.meaning.specs.Writing.{frame}
use Rattle.meaning.specs.Replies.{Reply, code_of, values_of, reply_of, printed}
use Rattle.reply_lines.specs.Prints.{Prints}
use Rattle.reply_lines.proofs.Lines.{length-frame}
use Rattle.listing.specs.declared.State.{State}
use Rattle.listing.specs.declared.State.TheVariants.{Done}
use Rattle.listing.specs.declared.Filled.{Filled}
use Rattle.listing.specs.declared.Entry.{Entry}
use Rattle.listing.specs.Filling.{state_after, Comes, Stopped, Runs, stops, waits, writes, Fills}
use Rattle.listing.specs.Entries.{Entered}

-- a line has bytes
line-some : (r : Reply) → 0 < length (printed r)
unfolding printed frame
line-some r = omega (arith, length-frame (code_of r ∷ values_of r))

pub front_of : (l bytes : List ℕ) (n : ℕ) → Prints l bytes n → take n bytes ≡ l
front_of l bytes n p = ap (take n) p.front ∙ take_at l (replicate (32 - length l) 0) n (sym p.size)

module _ (c : Context) (t : List ℕ) (k : Clause) (s : State) (lent : List ℕ) where
  pub record Filling (used : ℕ) (at : State) (after : List ℕ) : Type 0 where
    pub written : List ℕ
    pub size : used ≡ length written
    pub within : used ≤ length lent
    pub long : length after ≡ length lent
    pub stored : after ≡ written ++ drop used lent
    pub onward : (bytes : List ℕ) (u : State) → Runs c t k (length lent - used) at bytes u → Runs c t k (length lent) s (written ++ bytes) u

  pub filling-start : Filling 0 s lent
  filling-start =
      record {
        written = [];
        size = refl;
        within = omega arith;
        long = refl;
        stored = refl;
        onward = λ bytes u r. let e : length lent - 0 ≡ length lent = omega arith in rw e at r;
      }

  module _ (used : ℕ) (at : State) (after : List ℕ) (f : Filling used at after) where
    -- the bytes of a line
    line_of : (e : Entry) (w : Entered c t k at e) → take e.line.len e.line.bytes ≡ printed (reply_of w.what)
    line_of e w = front_of (printed (reply_of w.what)) e.line.bytes e.line.len w.told.prints

    -- one line more
    pub filling_step : (e : Entry) → Entered c t k at e → (line : List ℕ) → line ≡ take e.line.len e.line.bytes → length line ≤ length after - used
        → (put : List ℕ) → put ≡ line → Filling (used + length line) e.next (put_mid used (used + length line - used) after put)
    filling_step e w line q room put made =
        record {
          written = f.written ++ l;
          size = omega (arith, f.size, length-append f.written l, ap length same);
          within = omega (arith, f.within, f.long);
          long =
              same_len_mid used m after put (omega (arith, ap length made, length-take-le m (drop used after) (omega (arith, length-drop used after)), length-drop used after))
              ∙ f.long;
          stored =
              ap₂ (λ (x y : List ℕ). x ++ (put ++ y)) front behind
              ∙ ap (λ (x : List ℕ). f.written ++ (x ++ drop (used + length line) lent)) (made ∙ same)
              ∙ sym (append_assoc f.written l (drop (used + length line) lent));
          onward = λ bytes u x. rw append_assoc (f.onward (l ++ bytes) u (more bytes u x));
        }
      where
        m : ℕ
        m = used + length line - used

        l : List ℕ
        l = printed (reply_of w.what)

        same : line ≡ l
        same = q ∙ line_of e w

        front : take used after ≡ f.written
        front = ap (take used) f.stored ∙ take_at f.written (drop used lent) used (sym f.size)

        behind : drop m (drop used after) ≡ drop (used + length line) lent
        behind =
            let n : m ≡ length line = omega arith in
            ap (λ (i : ℕ). drop i (drop used after)) n
            ∙ ap (drop (length line)) (ap (drop used) f.stored ∙ drop_at f.written (drop used lent) used (sym f.size)) ∙ drop-drop (length line) used lent

        more : (bytes : List ℕ) (u : State) → Runs c t k (length lent - (used + length line)) e.next bytes u → Runs c t k (length lent - used) at (l ++ bytes) u
        more bytes u x =
            let d : length lent - (used + length line) ≡ (length lent - used) - length l = omega (arith, ap length same) in
            writes (length lent - used) at w.what w.comes (omega (arith, f.long, ap length same)) bytes u
            (subst (λ (z : State). Runs c t k ((length lent - used) - length l) z bytes u) w.told.state (subst (λ (i : ℕ). Runs c t k i e.next bytes u) d x))

    -- the room becomes less
    pub filling-less : (e : Entry) → Entered c t k at e → (line : List ℕ) → line ≡ take e.line.len e.line.bytes → length line ≤ length after - used
        → (put : List ℕ) → put ≡ line → length (put_mid used (used + length line - used) after put) - (used + length line) < length after - used
    filling-less e w line q room put made =
        omega (arith, (filling_step e w line q room put made).long, f.long, line-some (reply_of w.what), ap length (q ∙ line_of e w))

    -- the run ends here
    ends : (u : State) → Runs c t k (length lent - used) at [] u → Fills c t k s lent (record { used = used; next = u }) after
    ends u r =
        record {
          bytes = f.written;
          runs = subst (λ (b : List ℕ). Runs c t k (length lent) s b u) (append-nil f.written) (f.onward [] u r);
          used = f.size;
          stored = f.stored ∙ ap (λ (i : ℕ). f.written ++ drop i lent) f.size;
        }

    pub filling-stop : Stopped at → Fills c t k s lent (record { used = used; next = Done }) after
    filling-stop w = ends Done (stops (length lent - used) at w)

    pub filling-wait : (e : Entry) → Entered c t k at e → (line : List ℕ) → line ≡ take e.line.len e.line.bytes → length after - used < length line
        → Fills c t k s lent (record { used = used; next = at }) after
    filling-wait e w line q short = ends at (waits (length lent - used) at w.what w.comes (omega (arith, f.long, ap length (q ∙ line_of e w))))

-- ---- one answer

pub stopped-comes : (c : Context) (t : List ℕ) (k : Clause) (s : State) (r : Found) → Stopped s → Comes c t k s r → ⊥
stopped-comes c t k s r q w = w.going q.done

pub comes-one : (c : Context) (t : List ℕ) (k : Clause) (s : State) (q r : Found) → Comes c t k s q → Comes c t k s r → q ≡ r
comes-one c t k s q r v w = v.what ∙ sym w.what

module _ (c : Context) (t : List ℕ) (k : Clause) where
  pub runs-one : (n : ℕ) (s : State) (a b : List ℕ) (u v : State) → Runs c t k n s a u → Runs c t k n s b v → (a ≡ b) × (u ≡ v)
  runs-one n s a b u v (stops i x p) (stops j y q) = (refl, refl)
  runs-one n s a b u v (stops i x p) (waits j y r w h) = absurd (stopped-comes c t k x r p w)
  runs-one n s a b u v (stops i x p) (writes j y r w h d z g) = absurd (stopped-comes c t k x r p w)
  runs-one n s a b u v (waits i x r w h) (stops j y q) = absurd (stopped-comes c t k x r q w)
  runs-one n s a b u v (waits i x r w h) (waits j y q p l) = (refl, refl)
  runs-one n s a b u v (waits i x r w h) (writes j y q p l d z g) = absurd (omega (arith, ap (λ (f : Found). length (printed (reply_of f))) (comes-one c t k x r q w p)))
  runs-one n s a b u v (writes i x r w h d z g) (stops j y q) = absurd (stopped-comes c t k x r q w)
  runs-one n s a b u v (writes i x r w h d z g) (waits j y q p l) = absurd (omega (arith, ap (λ (f : Found). length (printed (reply_of f))) (comes-one c t k x r q w p)))
  runs-one n s a b u v (writes i x r w h d z g) (writes j y q p l e o m) =
      let f : r ≡ q = comes-one c t k x r q w p in
      let ih : (d ≡ e) × (z ≡ o) =
      runs-one (i - length (printed (reply_of r))) (state_after r) d e z o g
      (subst (λ (f : Found). Runs c t k (i - length (printed (reply_of f))) (state_after f) e o) (sym f) m) in
      (ap₂ (λ (f : Found) (l : List ℕ). printed (reply_of f) ++ l) f ih.0, ih.1)

  pub fills_one : (s : State) (lent : List ℕ) (q r : Filled) (a b : List ℕ) → Fills c t k s lent q a → Fills c t k s lent r b → (q ≡ r) × (a ≡ b)
  fills_one s lent q r a b v w =
      let o : (v.bytes ≡ w.bytes) × (q.next ≡ r.next) = runs-one (length lent) s v.bytes w.bytes q.next r.next v.runs w.runs in (
        ap₂ (λ (n : ℕ) (z : State). record { used = n; next = z }) (v.used ∙ ap length o.0 ∙ sym w.used) o.1,
        v.stored ∙ ap (λ (l : List ℕ). l ++ drop (length l) lent) o.0 ∙ sym w.stored,
      )

pub ruleset mine = (rules, filling-start, filling_step, filling-less, filling-stop, filling-wait)
