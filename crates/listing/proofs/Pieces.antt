-- Pieces joined are the whole output, whatever rooms they are given, and with rooms of 13 bytes or more they come to an end.
--     Rest, runs-rest       what a run leaves of a list: nothing, or the rest of it, where the run's last state stands
--     pieces-lines          pieces joined are the lines of the list
--     line-short            no line is longer than 13 bytes
--     run_on, pieces_end    a run with room for a line gets on; so the pieces end
-- Assumes nothing.
use mathlib.Core.Bool.{Bool, true, false}
use mathlib.Core.List.{List, [], ◌∷◌, ◌++◌, append-nil, append_assoc}
use mathlib.Core.Path.{◌≡◌, refl, sym, ap, ap₂, subst, ◌∙◌}
use Prim.Native.Nat.{ℕ, zero, suc, ◌-◌, ◌≤◌, ◌<◌}
use native.Mathlib.Omega.{arith}
use lib.Dec.{leb}
use borrow.Author.Tests.{leb-true, leb-false}
use lib.ListN.{length, take, replicate}
use lib.Seq.{take_at}
use Rattle.meaning.specs.Context.{Context}
use Rattle.meaning.specs.Rules.{Clause, variables, Found, found, nothing}
use Rattle.meaning.specs.Replies.{breach, none, reply_of, places_of, printed, code_of, values_of}
use Rattle.meaning.specs.Listing.{Goes, ends, goes, lines_of}
use Rattle.search.specs.Finding.{found_by, later_by}
use Rattle.reply_lines.proofs.Lines.{length-frame}
use Rattle.listing.specs.declared.State.{State}
use Rattle.listing.specs.declared.State.TheVariants.{Start, After, Done}
use Rattle.listing.specs.Filling.{Fitted, start_state, state_after, comes_by, Comes, Runs, stops, waits, writes, Pieces, over, piece}
use Rattle.listing.proofs.Lines.{found-sought, next-sought}
use Rattle.listing.proofs.Filling.{stopped-comes, comes-one}

-- ---- no line is longer than that of four rows

breach-short : (a : List ℕ) → length a ≤ 4 → length (printed (breach a)) ≤ 13
unfolding printed code_of values_of
breach-short a h = omega (arith, length-frame (8 ∷ length a ∷ a))

none-short : length (printed none) ≤ 13
unfolding printed code_of values_of
none-short = omega (arith, length-frame (9 ∷ []))

-- an assignment stands in front of its four places
pub placed-front : {n : ℕ} (a : List ℕ) → length a ≡ n → take n (places_of (breach a)) ≡ a
unfolding places_of
placed-front {n} a h = take_at a (replicate (4 - length a) 255) n h

module _ (c : Context) (t : List ℕ) (k : Clause) where
  -- what is next, as the state after a breach has it
  abbrev pub onward : List ℕ → Found
  onward a = later_by c t k (places_of (breach a))

  after-comes : (a : List ℕ) → Fitted c k → Comes c t k (state_after (found a)) (onward a)
  unfolding comes_by
  after-comes a f = record { fitted = f; going = λ e. absurd (let z : ◌≡◌ {A = ℕ} 0 1 = cc in omega arith); what = refl }

  pub start-comes : Fitted c k → Comes c t k start_state (found_by c t k)
  unfolding comes_by
  start-comes f = record { fitted = f; going = λ e. absurd (let z : ◌≡◌ {A = ℕ} 0 1 = cc in omega arith); what = refl }

  -- ---- the pieces are the list

  data Rest (bytes : List ℕ) (u : State) (l : List (List ℕ)) : Type 0 where
    ended : u ≡ Done → bytes ≡ lines_of l → Rest bytes u l
    left : (r : Found) (m : List (List ℕ)) → Comes c t k u r → Goes onward r m → lines_of l ≡ bytes ++ lines_of m → Rest bytes u l

  -- nothing is written past the end
  past_end : (n : ℕ) (s : State) (bytes : List ℕ) (u : State) → s ≡ Done → Runs c t k n s bytes u → (bytes ≡ []) × (u ≡ Done)
  past_end n s bytes u e (stops m z w) = (refl, refl)
  past_end n s bytes u e (waits m z r w h) = absurd (w.going e)
  past_end n s bytes u e (writes m z r w h b v g) = absurd (w.going e)

  runs-rest : (n : ℕ) (s : State) (bytes : List ℕ) (u : State) (r : Found) (l : List (List ℕ)) → Runs c t k n s bytes u → Comes c t k s r → Goes onward r l
      → Rest bytes u l
  unfolding lines_of
  runs-rest n s bytes u r l (stops m z w) v g = absurd (stopped-comes c t k z r w v)
  runs-rest n s bytes u r l (waits m z q w h) v g = left r l v g refl
  runs-rest n s bytes u r l (writes m z q w h b x y) v ends =
      let e : q ≡ nothing = comes-one c t k z q nothing w v in
      let p : (b ≡ []) × (x ≡ Done) =
      past_end (m - length (printed (reply_of q))) (state_after q) b x (ap state_after e) y in
      ended p.1 (ap₂ (λ (f : Found) (d : List ℕ). printed (reply_of f) ++ d) e p.0 ∙ append-nil (printed none))
  runs-rest n s bytes u r l (writes m z q w h b x y) v (goes a d g) =
      let e : q ≡ found a = comes-one c t k z q (found a) w v in
      go e (runs-rest (m - length (printed (reply_of q))) (state_after q) b x (onward a) d y (subst (λ (f : Found). Comes c t k (state_after f) (onward a)) (sym e) (after-comes a w.fitted)) g)
    where
      go : q ≡ found a → Rest b x d → Rest (printed (reply_of q) ++ b) x (a ∷ d)
      go e (ended p f) = ended p (ap₂ (λ (i : Found) (j : List ℕ). printed (reply_of i) ++ j) e f)
      go e (left i j p o f) =
          left i j p o
          (ap₂ (λ (i : Found) (j : List ℕ). printed (reply_of i) ++ j) (sym e) f ∙ sym (append_assoc (printed (reply_of q)) b (lines_of j)))

  pub past-pieces : (room : ℕ → ℕ) (i : ℕ) (s : State) (out : List ℕ) → s ≡ Done → Pieces c t k room i s out → out ≡ []
  past-pieces room i s out e (over j z d) = refl
  past-pieces room i s out e (piece j z bytes u rest y p) =
      let q : (bytes ≡ []) × (u ≡ Done) = past_end (room j) z bytes u e y in
      ap₂ ◌++◌ q.0 (past-pieces room (suc j) u rest q.1 p)

  pub pieces-lines : (room : ℕ → ℕ) (i : ℕ) (s : State) (out : List ℕ) (r : Found) (l : List (List ℕ)) → Pieces c t k room i s out → Comes c t k s r
      → Goes onward r l → out ≡ lines_of l
  pieces-lines room i s out r l (over j z e) w g = absurd (w.going e)
  pieces-lines room i s out r l (piece j z bytes u rest y p) w g =
      go (runs-rest (room j) z bytes u r l y w g) (λ q m v h. pieces-lines room (suc j) u rest q m p v h)
    where
      go : Rest bytes u l → ((q : Found) (m : List (List ℕ)) → Comes c t k u q → Goes onward q m → rest ≡ lines_of m) → bytes ++ rest ≡ lines_of l
      go (ended e f) ih = ap₂ ◌++◌ f (past-pieces room (suc j) u rest e p) ∙ append-nil (lines_of l)
      go (left q m v h f) ih = ap (bytes ++◌) (ih q m v h) ∙ sym f

  -- ---- the pieces end

  -- what a run of at least one line leaves: nothing, or a shorter list
  pub data Shorter (u : State) (l : List (List ℕ)) : Type 0 where
    none_left : u ≡ Done → Shorter u l
    fewer : (r : Found) (m : List (List ℕ)) → Comes c t k u r → Goes onward r m → length m < length l → Shorter u l

  pub record Advance (n : ℕ) (s : State) (l : List (List ℕ)) : Type 0 where
    pub bytes : List ℕ
    pub last : State
    pub run : Runs c t k n s bytes last
    pub shorter : Shorter last l

  pub run_on : (n : ℕ) (s : State) (r : Found) (l : List (List ℕ)) → Comes c t k s r → Goes onward r l → length (printed (reply_of r)) ≤ n → Advance n s l
  run_on n s r l w ends h =
      record {
        bytes = printed none ++ [];
        last = state_after nothing;
        run = writes n s nothing w h [] (state_after nothing) (stops (n - length (printed none)) (state_after nothing) (record { done = refl }));
        shorter = none_left refl;
      }
  run_on n s r l w (goes a d g) h = go (leb (length (printed (reply_of (onward a)))) (n - length (printed (breach a)))) refl (run_on (n - length (printed (breach a))) (state_after (found a)) (onward a) d (after-comes a w.fitted) g)
    where
      m : ℕ
      m = n - length (printed (breach a))

      more : Advance m (state_after (found a)) d → Advance n s (a ∷ d)
      more x =
          record {
            bytes = printed (breach a) ++ x.bytes;
            last = x.last;
            run = writes n s (found a) w h x.bytes x.last x.run;
            shorter = longer x.shorter;
          }
        where
          longer : {u : State} → Shorter u d → Shorter u (a ∷ d)
          longer (none_left e) = none_left e
          longer (fewer q o v y i) = fewer q o v y (omega arith)

      go : (b : Bool) → leb (length (printed (reply_of (onward a)))) m ≡ b → (length (printed (reply_of (onward a))) ≤ m → Advance m (state_after (found a)) d) → Advance n s (a ∷ d)
      go true e ih = more (ih (leb-true (length (printed (reply_of (onward a)))) m e))
      go false e ih =
          record {
            bytes = printed (breach a) ++ [];
            last = state_after (found a);
            run = writes n s (found a) w h [] (state_after (found a)) (waits m (state_after (found a)) (onward a) (after-comes a w.fitted) (leb-false (length (printed (reply_of (onward a)))) m e));
            shorter = fewer (onward a) d (after-comes a w.fitted) g (omega arith);
          }

  comes-sought : (s : State) (a : List ℕ) → Comes c t k s (found a) → length a ≡ variables k.patterns
  unfolding comes_by
  comes-sought Start a w = (found-sought c t k a (sym w.what)).0
  comes-sought (After places) a w = (next-sought c t k places a (sym w.what)).0
  comes-sought Done a w = absurd (w.going refl)

  pub line-short : (s : State) (r : Found) → Comes c t k s r → length (printed (reply_of r)) ≤ 13
  line-short s nothing w = none-short
  line-short s (found a) w =
      breach-short a (omega (arith, comes-sought s a w, w.fitted.variables-few))

  pub pieces_end : (room : ℕ → ℕ) → ((i : ℕ) → 13 ≤ room i) → (fuel : ℕ) (l : List (List ℕ)) → length l < fuel
      → (i : ℕ) (s : State) (r : Found) → Comes c t k s r → Goes onward r l → (out : List ℕ) × Pieces c t k room i s out
  pieces_end room h zero l f i s r w g = absurd (omega arith)
  pieces_end room h (suc n) l f i s r w g =
      go (run_on (room i) s r l w g (omega (arith, line-short s r w, h i))) (λ m lt u q v y. pieces_end room h n m lt (suc i) u q v y)
    where
      go : Advance (room i) s l
          → ((m : List (List ℕ)) → length m < n → (u : State) (q : Found) → Comes c t k u q → Goes onward q m → (out : List ℕ) × Pieces c t k room (suc i) u out)
          → (out : List ℕ) × Pieces c t k room i s out
      go x ih = rest x.shorter
        where
          rest : Shorter x.last l → (out : List ℕ) × Pieces c t k room i s out
          rest (none_left e) = (x.bytes ++ [], piece i s x.bytes x.last [] x.run (over (suc i) x.last e))
          rest (fewer q m v y lt) =
              let p : (out : List ℕ) × Pieces c t k room (suc i) x.last out = ih m (omega arith) x.last q v y in
              (x.bytes ++ p.0, piece i s x.bytes x.last p.0 x.run p.1)
