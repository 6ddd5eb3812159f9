-- The memo: what it holds, and what noting an answer makes of it.
--     memo-blank                     a blank memo is right
--     known-room .. told-so          one pair read
--     pair-first .. pair-so          one pair put into sets
--     note-known .. noted-true       one answer noted
--     memo-noted                     a memo with a right answer more is right
--     recall-known .. recall-rows    two classes, and two rows
-- Assumes nothing.
use mathlib.Core.Bool.{Bool, true, false, ◌&&◌, ◌||◌, not}
use mathlib.Core.List.{List}
use mathlib.Core.Path.{◌≡◌, refl, ap, ap₂, sym, ◌∙◌, subst}
use mathlib.Core.Logic.{◌⊎◌, inl, inr, ⊎_elim}
use Prim.Native.Nat.{ℕ, ◌+◌, ◌*◌, ◌/◌, ◌%◌, ◌≤◌, ◌<◌}
use native.Mathlib.Nat.{mul-le-mul_right}
use native.Mathlib.Omega.{arith}
use borrow.Author.Rules.{rules}
use borrow.Author.Tests.{not-true, not-false}
use lib.ListN.{length, get_or}
use Rattle.std.specs.Prelude.{None, Some}
use Rattle.meaning.specs.Equality.{rep_at}
use Rattle.meaning.specs.Following.{differ_by}
use Rattle.meaning.proofs.Logic.{false-true, or-none}
use Rattle.meaning.proofs.FollowingNumbers.{differ_by-symmetric, differ_by-outside, differ_by-rep}
use Rattle.runs.specs.Runs.{row_count, context_of}
use Rattle.runs.proofs.Saying.{length-rows}
use Rattle.bits.specs.Sets.{has, bit_at, Emptied}
use Rattle.bits.proofs.Words.{none_has}
use Rattle.search_pairs.specs.Ready.{words_for, most_words, Ready}
use Rattle.search_pairs.specs.Steps.{Laid, Inside, sets_size, Blank, Asked}
use Rattle.search_pairs.specs.Prepare.{Seat, Put}
use Rattle.search_pairs.specs.Memo.{memo_size, known_at, differs_at, Knows, Memo, is_pair, Sought, Paired, Places, Noted, Asking, Recalled}
use Rattle.search_pairs.proofs.Putting.{put_other, pair-exact, ways}

-- ---- blank words

pub memo-blank : (rows table sets known : List ℕ) → Emptied (memo_size (row_count rows)) known → Memo rows table sets known
unfolding has
memo-blank rows table sets known e =
    record {
      long = e.long;
      clear = λ a b ha hb h. none ((row_count rows + a) * words_for (row_count rows)) b;
      so = λ said ready a b ha hb h. false-true h (none (a * words_for (row_count rows)) b);
    }
  where
    none : (base j : ℕ) → bit_at (get_or known (base + j / 64) 0) (j % 64) ≡ false
    none base j = ap (λ (v : ℕ). bit_at v (j % 64)) (e.words (base + j / 64)) ∙ none_has (j % 64)

-- ---- one pair read

memo-room : (n s len : ℕ) → s < n + n → len ≡ memo_size n → s * words_for n + words_for n ≤ len
memo-room n s len h l = omega (arith, mul-le-mul_right {m = s + 1} {n = n + n} (words_for n) (omega arith))

module _ (n len x y : ℕ) (w : Places n len x y) where
  pub places-few : words_for n ≤ most_words
  places-few = w.few

  pub known-set : x ≤ n + n + n
  known-set = omega (arith, w.left)

  pub told-set : n + x ≤ n + n + n
  told-set = omega (arith, w.left)

  pub told-fits : n + x < 18446744073709551616
  told-fits = omega (arith, w.left, w.few)

  module _ (base : ℕ) where
    pub known-room : (base ≡ x * words_for n) × (base ≤ 65536) → base + y / 64 < len
    known-room e = omega (arith, memo-room n x len (omega (arith, w.left)) w.long, e.0, w.right)

    pub told-room : (base ≡ (n + x) * words_for n) × (base ≤ 65536) → base + y / 64 < len
    told-room e = omega (arith, memo-room n (n + x) len (omega (arith, w.left)) w.long, e.0, w.right)

pub known_so : (n x y base : ℕ) (known : List ℕ) (r : Bool) → (base ≡ x * words_for n) × (base ≤ 65536) → r ≡ has known base y → r ≡ known_at n known x y
known_so n x y base known r e q = q ∙ ap (λ (v : ℕ). has known v y) e.0

pub told-so : (n x y base : ℕ) (known : List ℕ) (r : Bool) → (base ≡ (n + x) * words_for n) × (base ≤ 65536) → r ≡ has known base y → r ≡ differs_at n known x y
told-so n x y base known r e q = q ∙ ap (λ (v : ℕ). has known v y) e.0

pub knows-not : (n x y : ℕ) (known : List ℕ) (b : Bool) → b ≡ known_at n known x y → b ≡ false → Knows n known x y None
knows-not n x y known b e q = sym e ∙ q

pub knows-so : (n x y : ℕ) (known : List ℕ) (b r : Bool) → b ≡ known_at n known x y → b ≡ true → r ≡ differs_at n known x y → Knows n known x y (Some r)
knows-so n x y known b r e q d = (sym e ∙ q, d)

-- ---- one pair put into sets

module _ (n base x y : ℕ) (known : List ℕ) (w : Sought n (length known) base x y) where
  pub pair-first : Seat n (length known) (base + x) y
  pair-first = record { few = w.few; set = omega (arith, w.low, w.left); room = memo-room n (base + x) (length known) (omega (arith, w.low, w.left)) w.long; inside = w.right }

  pub pair-second : (new : List ℕ) (s k : ℕ) → Put n s k known new → Seat n (length new) (base + y) x
  pair-second new s k p =
      record {
        few = w.few;
        set = omega (arith, w.low, w.right);
        room = memo-room n (base + y) (length new) (omega (arith, w.low, w.right)) (p.long ∙ w.long);
        inside = w.left;
      }

  pub pair_fits : (z : ℕ) → z < n → base + z < 18446744073709551616
  pair_fits z h = omega (arith, w.low, w.few)

  pub pair-so : (b c : List ℕ) → Put n (base + x) y known b → Put n (base + y) x b c → Paired n base x y known c
  pair-so b c p q =
      record {
        long = q.long ∙ p.long;
        here = exact;
        others = λ s j hj d.
            put_other q w.left s j hj (λ e. ⊎_elim (λ l. omega arith) (λ l. omega (arith, w.right)) d)
            ∙ put_other p w.right s j hj (λ e. ⊎_elim (λ l. omega arith) (λ l. omega (arith, w.left)) d);
      }
    where
      exact : (i j : ℕ) → i < n → j < n → has c ((base + i) * words_for n) j ≡ (has known ((base + i) * words_for n) j || is_pair x y i j)
      exact i j hi hj = pair-exact n base x y known b c w.left w.right p q i j hj

-- ---- one answer noted

or-false : (a b : Bool) → b ≡ false → (a || b) ≡ a
or-false true b e = refl
or-false false b e = e

module _ (n x y : ℕ) (known : List ℕ) (w : Places n (length known) x y) where
  pub note-known : Sought n (length known) 0 x y
  note-known = record { few = w.few; long = w.long; low = omega arith; left = w.left; right = w.right }

  module _ (b : List ℕ) (p : Paired n 0 x y known b) where
    pub note-differs : Sought n (length b) n x y
    note-differs = record { few = w.few; long = p.long ∙ w.long; low = omega arith; left = w.left; right = w.right }

    first : (i j : ℕ) → i < n → j < n → known_at n b i j ≡ (known_at n known i j || is_pair x y i j)
    first i j hi hj =
        let z : 0 + i ≡ i = omega arith in
        ap (λ (v : ℕ). has b (v * words_for n) j) (sym z) ∙ p.here i j hi hj ∙ ap (λ (v : ℕ). has known (v * words_for n) j || is_pair x y i j) z

    pub noted-false : (r : Bool) → not r ≡ true → Noted n x y r known b
    noted-false r f =
        record {
          long = p.long;
          known = first;
          differs = λ i j hi hj.
              p.others (n + i) j hj (inr (omega arith))
              ∙ sym (ap (λ (v : Bool). differs_at n known i j || (v && is_pair x y i j)) (not-true r f) ∙ or-false (differs_at n known i j) false refl);
        }

    pub noted-true : (c : List ℕ) (r : Bool) → not r ≡ false → Paired n n x y b c → Noted n x y r known c
    noted-true c r f q =
        record {
          long = q.long ∙ p.long;
          known = λ i j hi hj. q.others i j hj (inl hi) ∙ first i j hi hj;
          differs = λ i j hi hj.
              q.here i j hi hj
              ∙ ap (λ (v : Bool). v || is_pair x y i j) (p.others (n + i) j hj (inr (omega arith)))
              ∙ sym (ap (λ (v : Bool). differs_at n known i j || (v && is_pair x y i j)) (not-false r f));
        }

-- ---- a right answer more

module _ (rows table sets : List ℕ) (x y : ℕ) (labels work old new : List ℕ) (r : Bool) (m : Memo rows table sets old) (t : Noted (row_count rows) x y r old new)
    (s : Asked rows table sets x y labels work r) where
  -- a pair that is not the one
  other-pair : (a b : ℕ) → a < row_count rows → b < row_count rows → is_pair x y a b ≡ false → differs_at (row_count rows) new a b ≡ differs_at (row_count rows) old a b
  other-pair a b ha hb e =
      t.differs a b ha hb
      ∙ ap (λ (v : Bool). differs_at (row_count rows) old a b || (r && v)) e
      ∙ or-false (differs_at (row_count rows) old a b) (r && false) (and-false r)
    where
      and-false : (v : Bool) → (v && false) ≡ false
      and-false true = refl
      and-false false = refl

  right : (said : List ℕ) → Ready rows said table sets → (a b : ℕ) → a < row_count rows → b < row_count rows
      → ((a ≡ x) × (b ≡ y)) ⊎ ((b ≡ x) × (a ≡ y)) → r ≡ differ_by (context_of rows said) a b
  right said ready a b ha hb (inl w) = s.so said ready ∙ ap₂ (differ_by (context_of rows said)) (sym w.0) (sym w.1)
  right said ready a b ha hb (inr w) =
      s.so said ready
      ∙ ap₂ (differ_by (context_of rows said)) (sym w.0) (sym w.1)
      ∙ differ_by-symmetric (context_of rows said) ready.fit b a (omega (arith, length-rows rows)) (omega (arith, length-rows rows))

  -- the pair itself
  this-pair : (said : List ℕ) → Ready rows said table sets → (a b : ℕ) → a < row_count rows → b < row_count rows → is_pair x y a b ≡ true
      → (k : Bool) → known_at (row_count rows) old a b ≡ k → differs_at (row_count rows) new a b ≡ differ_by (context_of rows said) a b
  this-pair said ready a b ha hb e k ek =
      t.differs a b ha hb
      ∙ ap (λ (v : Bool). differs_at (row_count rows) old a b || (r && v)) e
      ∙ go k ek
      ∙ right said ready a b ha hb (ways x y a b e)
    where
      and-true : (v : Bool) → (v && true) ≡ v
      and-true true = refl
      and-true false = refl

      or_same : (v : Bool) → (v || v) ≡ v
      or_same true = refl
      or_same false = refl

      go : (k : Bool) → known_at (row_count rows) old a b ≡ k → (differs_at (row_count rows) old a b || (r && true)) ≡ r
      go true f =
          ap₂ (λ (u v : Bool). u || v) (m.so said ready a b ha hb f ∙ sym (right said ready a b ha hb (ways x y a b e))) (and-true r) ∙ or_same r
      go false f = ap₂ (λ (u v : Bool). u || v) (m.clear a b ha hb f) (and-true r)

  pub memo-more : Memo rows table sets new
  memo-more =
      record {
        long = t.long ∙ m.long;
        clear = λ a b ha hb h.
            let w : (known_at (row_count rows) old a b ≡ false) × (is_pair x y a b ≡ false) = or-none _ _ (sym (t.known a b ha hb) ∙ h) in
            other-pair a b ha hb w.1 ∙ m.clear a b ha hb w.0;
        so = λ said ready a b ha hb h. go said ready a b ha hb h (is_pair x y a b) refl;
      }
    where
      or-first : (u v : Bool) → v ≡ false → (u || v) ≡ true → u ≡ true
      or-first true v e f = refl
      or-first false v e f = false-true f e

      go : (said : List ℕ) → Ready rows said table sets → (a b : ℕ) → a < row_count rows → b < row_count rows → known_at (row_count rows) new a b ≡ true
          → (p : Bool) → is_pair x y a b ≡ p → differs_at (row_count rows) new a b ≡ differ_by (context_of rows said) a b
      go said ready a b ha hb h true e = this-pair said ready a b ha hb e (known_at (row_count rows) old a b) refl
      go said ready a b ha hb h false e =
          other-pair a b ha hb e
          ∙ m.so said ready a b ha hb (or-first (known_at (row_count rows) old a b) (is_pair x y a b) e (sym (t.known a b ha hb) ∙ h))

-- ---- two classes

module _ (n : ℕ) (rows table sets labels work known : List ℕ) (x y : ℕ) (w : Asking n rows table sets labels work known x y) where
  pub recall-places : Places n (length known) x y
  recall-places =
      subst (λ (v : ℕ). Places v (length known) x y) (sym w.count) (record { few = w.laid.room; long = w.memo.long; left = w.left; right = w.right })

  pub recall-known : (b r : Bool) → b ≡ known_at n known x y → b ≡ true → r ≡ differs_at n known x y → Recalled rows table sets x y labels work known r
  recall-known b r eb f er =
      record {
        asked =
            record {
              blank = w.blank;
              so = λ said ready.
                  er
                  ∙ ap (λ (v : ℕ). differs_at v known x y) w.count
                  ∙ w.memo.so said ready x y w.left w.right (ap (λ (v : ℕ). known_at v known x y) (sym w.count) ∙ sym eb ∙ f);
            };
        memo = w.memo;
      }

  pub recall-told : (r : Bool) → Knows n known x y (Some r) → Recalled rows table sets x y labels work known r
  recall-told r k = recall-known (known_at n known x y) r refl k.0 k.1

  pub settle-laid : Laid rows
  settle-laid = w.laid

  pub settle-inside : Inside (row_count rows) table
  settle-inside = w.inside

  pub settle-room : sets_size (row_count rows) ≤ length sets
  settle-room = w.room

  pub settle-blank : Blank (row_count rows) labels work
  settle-blank = w.blank

  pub memo-noted : (labels' work' new : List ℕ) (r : Bool) → Asked rows table sets x y labels' work' r → Noted n x y r known new
      → Recalled rows table sets x y labels' work' new r
  memo-noted labels' work' new r a t =
      record { asked = a; memo = memo-more rows table sets x y labels' work' known new r w.memo (subst (λ (v : ℕ). Noted v x y r known new) w.count t) a }

-- ---- two rows

module _ (n : ℕ) (rows table sets known : List ℕ) (a b : ℕ) (en : n ≡ row_count rows) where
  pub recall-left : (labels work : List ℕ) → Blank (row_count rows) labels work → Memo rows table sets known → n ≤ a → Recalled rows table sets a b labels work known false
  recall-left labels work k m h =
      record { asked = record { blank = k; so = λ said ready. sym (differ_by-outside (context_of rows said) a b (inl (omega (arith, length-rows rows)))) }; memo = m }

  pub recall-right : (labels work : List ℕ) → Blank (row_count rows) labels work → Memo rows table sets known → n ≤ b → Recalled rows table sets a b labels work known false
  recall-right labels work k m h =
      record { asked = record { blank = k; so = λ said ready. sym (differ_by-outside (context_of rows said) a b (inr (omega (arith, length-rows rows)))) }; memo = m }

  module _ (x y : ℕ) (ha : a < n) (hb : b < n) (ex : x ≡ rep_at table a) (ey : y ≡ rep_at table b) where
    pub recall-asks : (labels work : List ℕ) → Laid rows → Inside (row_count rows) table → sets_size (row_count rows) ≤ length sets → Blank (row_count rows) labels work
        → Memo rows table sets known → Asking n rows table sets labels work known x y
    recall-asks labels work laid inside room blank memo =
        record {
          count = en;
          laid = laid;
          inside = inside;
          room = room;
          blank = blank;
          memo = memo;
          left = omega (arith, inside.each a (omega arith));
          right = omega (arith, inside.each b (omega arith));
        }

    pub recall-rows : (labels work : List ℕ) (r : Bool) → Recalled rows table sets x y labels work known r → Recalled rows table sets a b labels work known r
    recall-rows labels work r s =
        record {
          asked =
              record {
                blank = s.asked.blank;
                so = λ said ready.
                    s.asked.so said ready
                    ∙ ap₂ (differ_by (context_of rows said)) ex ey
                    ∙ sym (differ_by-rep (context_of rows said) ready.fit (rep_at table) ready.classes a b (omega (arith, length-rows rows)) (omega (arith, length-rows rows)));
              };
          memo = s.memo;
        }

pub ruleset mine = (
  rules,
  places-few,
  known-set,
  told-set,
  told-fits,
  known-room,
  told-room,
  known_so,
  told-so,
  knows-not,
  knows-so,
  pair-first,
  pair-second,
  pair_fits,
  pair-so,
  note-known,
  note-differs,
  noted-false,
  noted-true,
)

pub ruleset asks = (rules, recall-places, recall-told, settle-laid, settle-inside, settle-room, settle-blank, memo-noted, recall-left, recall-right, recall-asks, recall-rows)
