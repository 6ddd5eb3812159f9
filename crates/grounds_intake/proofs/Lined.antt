-- A line in a buffer says what the line itself says.
--     Buffered                                        a buffer holds the bytes of a line, of a long one the first 51
--     buffered-empty, buffered-open, buffered-push    nothing; the digits 0 and 8; one byte more
--     formed-same, word_same, places_same, noted-same   what is read off it
-- Assumes nothing.
use mathlib.Core.Bool.{Bool, true, false, ◌&&◌}
use mathlib.Core.List.{List, [], ◌∷◌, ◌++◌, map}
use mathlib.Core.Path.{◌≡◌, refl, ap, sym, ◌∙◌}
use Prim.Native.Nat.{ℕ, zero, suc, ◌+◌, ◌*◌, ◌≤◌, ◌<◌}
use native.Mathlib.Omega.{arith}
use lib.Dec.{eqb, ltb, leb}
use borrow.Author.Tests.{ne_eqb, eqb-true, eqb-false, ltb-true, ltb-false, leb-true}
use lib.ListN.{length, get_or, set, replicate, length-append, length-set, length-replicate}
use lib.Seq.{get_or-set_same, get_or-set_other}
use Rattle.meaning.specs.Text.{digit}
use Rattle.grounds_intake.specs.Parsing.{all_digits, byte_of, two_of, four_of, eight_of, assigns, place_of, places_of, formed, word_of}
use Rattle.grounds_intake.specs.Machine.{empty_line, open_line, pushed, put_conclusion, noted}
use Rattle.grounds_intake.specs.declared.Buffer.{Buffer}
use Rattle.grounds_intake.specs.declared.Noted.{Noted}
use Rattle.grounds_intake.proofs.Filled.{Sized, sized-more, zeros-at}

pub record Buffered (l : Buffer) (bytes : List ℕ) : Type 0 where
  pub long : length l.values ≡ 51
  pub sized : Sized 51 (length bytes) l.size
  pub good : l.good ≡ all_digits bytes
  pub values : (j : ℕ) → j < 51 → get_or l.values j 0 ≡ get_or (map digit bytes) j 0

-- ---- from nothing, byte by byte

pub buffered-empty : Buffered empty_line []
unfolding empty_line all_digits
buffered-empty =
    record {
      long = length-replicate {A = ℕ} 51 0;
      sized = record { few = omega arith; exact = λ h. refl; full = λ h. absurd (omega arith) };
      good = refl;
      values = λ j h. zeros-at 51 j;
    }

pub buffered-open : Buffered open_line (48 ∷ 56 ∷ [])
unfolding open_line all_digits digit
buffered-open =
    record {
      long = length-set {A = ℕ} (replicate 51 0) 1 8 ∙ length-replicate {A = ℕ} 51 0;
      sized = record { few = omega arith; exact = λ h. refl; full = λ h. absurd (omega arith) };
      good = refl;
      values = at;
    }
  where
    at : (j : ℕ) → j < 51 → get_or (set (replicate 51 0) 1 8) j 0 ≡ get_or (map digit (48 ∷ 56 ∷ [])) j 0
    at zero h = refl
    at (suc zero) h = refl
    at (suc (suc j)) h = zeros-at 49 j

snoc-same : (l : List ℕ) (b : ℕ) → get_or (map digit (l ++ (b ∷ []))) (length l) 0 ≡ digit b
snoc-same [] b = refl
snoc-same (a ∷ l) b = snoc-same l b

snoc-other : (l : List ℕ) (b j : ℕ) → (j ≡ length l → ⊥) → get_or (map digit (l ++ (b ∷ []))) j 0 ≡ get_or (map digit l) j 0
snoc-other [] b zero h = absurd (h refl)
snoc-other [] b (suc j) h = refl
snoc-other (a ∷ l) b zero h = refl
snoc-other (a ∷ l) b (suc j) h = snoc-other l b j (λ e. h (ap suc e))

and_assoc : (a b c : Bool) → ((a && b) && c) ≡ (a && (b && c))
and_assoc true b c = refl
and_assoc false b c = refl

and-true : (a : Bool) → (a && true) ≡ a
and-true true = refl
and-true false = refl

digits-snoc : (l : List ℕ) (b : ℕ) → (all_digits l && ltb (digit b) 16) ≡ all_digits (l ++ (b ∷ []))
unfolding all_digits
digits-snoc [] b = sym (and-true (ltb (digit b) 16))
digits-snoc (a ∷ l) b = and_assoc (ltb (digit a) 16) (all_digits l) (ltb (digit b) 16) ∙ ap (λ (x : Bool). ltb (digit a) 16 && x) (digits-snoc l b)

module _ (l : Buffer) (bytes : List ℕ) (b : ℕ) (w : Buffered l bytes) where
  value-push : (j : ℕ) → j < 51 → get_or (set l.values l.size (digit b)) j 0 ≡ get_or (map digit (bytes ++ (b ∷ []))) j 0
  value-push j h = go (eqb j l.size) refl
    where
      here : j ≡ l.size → j ≡ length bytes
      here e = side (ltb (length bytes) 51) refl
        where
          side : (c : Bool) → ltb (length bytes) 51 ≡ c → j ≡ length bytes
          side true q = e ∙ w.sized.exact (ltb-true (length bytes) 51 q)
          side false q = absurd (omega (arith, w.sized.full (ltb-false (length bytes) 51 q)))

      there : (j ≡ l.size → ⊥) → j ≡ length bytes → ⊥
      there f e = f (e ∙ sym (w.sized.exact (omega arith)))

      go : (c : Bool) → eqb j l.size ≡ c → get_or (set l.values l.size (digit b)) j 0 ≡ get_or (map digit (bytes ++ (b ∷ []))) j 0
      go true q =
          let e : j ≡ l.size = eqb-true j l.size q in
          let n : l.size < length l.values = omega (arith, w.long) in
          ap (λ (x : ℕ). get_or (set l.values l.size (digit b)) x 0) e
          ∙ get_or-set_same l.values l.size (digit b) 0 n
          ∙ sym (ap (λ (x : ℕ). get_or (map digit (bytes ++ (b ∷ []))) x 0) (here e) ∙ snoc-same bytes b)
      go false q =
          let f : j ≡ l.size → ⊥ = eqb-false j l.size q in
          get_or-set_other l.values l.size j (digit b) 0 f ∙ w.values j h ∙ sym (snoc-other bytes b j (there f))

  pub buffered-push : Buffered (pushed l b) (bytes ++ (b ∷ []))
  unfolding pushed
  buffered-push =
      record {
        long = length-set l.values l.size (digit b) ∙ w.long;
        sized = rw (length-append bytes (b ∷ [])) (sized-more 51 (length bytes) l.size w.sized);
        good = ap (λ (x : Bool). x && ltb (digit b) 16) w.good ∙ digits-snoc bytes b;
        values = value-push;
      }

-- ---- what is read off it

module _ (l : Buffer) (bytes : List ℕ) (w : Buffered l bytes) where
  abbrev vs : List ℕ
  vs = map digit bytes

  byte-same : (i : ℕ) → i ≤ 24 → byte_of l.values i ≡ byte_of (map digit bytes) i
  unfolding byte_of
  byte-same i h = rw (w.values (i * 2) (omega arith), w.values (i * 2 + 1) (omega arith))

  two-same : (i : ℕ) → i ≤ 23 → two_of l.values i ≡ two_of (map digit bytes) i
  unfolding two_of
  two-same i h = rw (byte-same i (omega arith), byte-same (i + 1) (omega arith))

  four_same : (i : ℕ) → i ≤ 21 → four_of l.values i ≡ four_of (map digit bytes) i
  unfolding four_of
  four_same i h = rw (two-same i (omega arith), two-same (i + 2) (omega arith))

  eight-same : (i : ℕ) → i ≤ 17 → eight_of l.values i ≡ eight_of (map digit bytes) i
  unfolding eight_of
  eight-same i h = rw (four_same i (omega arith), four_same (i + 4) (omega arith))

  size_same : (n : ℕ) → n < 51 → eqb l.size n ≡ eqb (length bytes) n
  size_same n h = go (ltb (length bytes) 51) refl
    where
      go : (c : Bool) → ltb (length bytes) 51 ≡ c → eqb l.size n ≡ eqb (length bytes) n
      go true q = rw (w.sized.exact (ltb-true (length bytes) 51 q))
      go false q =
          let k : 51 ≤ length bytes = ltb-false (length bytes) 51 q in
          let e : l.size ≡ 51 = w.sized.full k in
          ne_eqb l.size n (λ z. omega arith) ∙ sym (ne_eqb (length bytes) n (λ z. omega arith))

  pub formed-same : (kind long : ℕ) → long < 51 → formed kind long l.good l.size l.values ≡ formed kind long (all_digits bytes) (length bytes) (map digit bytes)
  unfolding formed
  formed-same kind long h = rw (w.good, size_same long h, byte-same 0 (omega arith))

  pub word_same : (i : ℕ) → i ≤ 2 → word_of l.good l.size l.values i ≡ word_of (all_digits bytes) (length bytes) (map digit bytes) i
  unfolding word_of
  word_same i h = rw (formed-same 176 50 (omega arith), eight-same (i * 8 + 1) (omega arith))

  assigns-same : assigns l.good l.size l.values ≡ assigns (all_digits bytes) (length bytes) (map digit bytes)
  unfolding assigns
  assigns-same = rw (w.good, byte-same 1 (omega arith)) (ap (λ (x : Bool). all_digits bytes && x) (go (leb n 4) refl))
    where
      n : ℕ
      n = byte_of (map digit bytes) 1

      go : (c : Bool) → leb n 4 ≡ c → (leb n 4 && eqb l.size (n * 2 + 4)) ≡ (leb n 4 && eqb (length bytes) (n * 2 + 4))
      go true q = let h : n ≤ 4 = leb-true n 4 q in ap (λ (x : Bool). leb n 4 && x) (size_same (n * 2 + 4) (omega arith))
      go false q = rw q

  place_same_lem : (i : ℕ) → i < 4 → place_of l.good l.size l.values i ≡ place_of (all_digits bytes) (length bytes) (map digit bytes) i
  unfolding place_of
  place_same_lem i h = rw (assigns-same, byte-same 1 (omega arith), byte-same (i + 2) (omega arith))

  pub places_same : places_of l.good l.size l.values ≡ places_of (all_digits bytes) (length bytes) (map digit bytes)
  unfolding places_of
  places_same = rw (place_same_lem 0 (omega arith), place_same_lem 1 (omega arith), place_same_lem 2 (omega arith), place_same_lem 3 (omega arith))

  pub noted-same : (n : Noted) → noted n l.values ≡ noted n (map digit bytes)
  unfolding noted put_conclusion
  noted-same n = rw (byte-same 1 (omega arith), four_same 2 (omega arith), two-same 10 (omega arith))
