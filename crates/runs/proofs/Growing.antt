-- A run with one piece more says one more.
--     put_front                           up to a piece that was written, a run is what it was up to there, and the piece
--     rows_more .. literals-more          such a run says one more
--     put-row-more .. put-literal-more    the same of a run that was written to
--     Copied                              the invariant of the loop that writes
-- Assumes nothing.
use mathlib.Core.List.{List, [], ◌∷◌, ◌++◌}
use mathlib.Core.Path.{◌≡◌, refl, ap, ap₂, sym, ◌∙◌}
use Prim.Native.Nat.{ℕ, zero, suc, ◌+◌, ◌*◌, ◌/◌, ◌≤◌, ◌<◌}
use native.Mathlib.Numerals.{add-one}
use native.Mathlib.Nat.{suc-mul, zero-mul, mul-le-mul_right}
use native.Mathlib.Omega.{arith}
use borrow.Author.Rules.{rules}
use lib.ListN.{length, get_or, set, take, drop, length-append, length-set, length-drop}
use lib.Seq.{paste, paste-zero, paste-suc, take-length, take_at, drop_at, take_all, take-take, drop-drop, take-append-le, drop-append-le, length-take-le, get_or-take, get_or-drop, ext_get_or}
use Rattle.meaning.specs.Columns.{statement_of, pattern_of, literal_of}
use Rattle.runs.specs.Limits.{row_size, said_size, pattern_size, literal_size, arg_places}
use Rattle.runs.specs.Runs.{each, put, row_in, rows_of, statement_in, statements_of, pattern_in, patterns_of, literal_in, literals_of}

-- ---- the loop that writes

pub record Copied (run₀ : List ℕ) (at : ℕ) (piece : List ℕ) (n : ℕ) (run : List ℕ) (k : ℕ) : Type 0 where
  pub count : n ≡ length piece
  pub few : k ≤ n
  pub long : length run ≡ length run₀
  pub so : run ≡ paste run₀ at piece k

module _ (run₀ : List ℕ) (at : ℕ) (piece : List ℕ) (n : ℕ) where
  pub copied-start : n ≡ length piece → Copied run₀ at piece n run₀ 0
  copied-start e = record { count = e; few = omega arith; long = refl; so = paste-zero run₀ at piece }

  module _ (run : List ℕ) (k : ℕ) (c : Copied run₀ at piece n run k) (room : at + length piece ≤ length run₀) where
    pub copied_next : k < n → Copied run₀ at piece n (set run (at + k) (get_or piece k 0)) (k + 1)
    copied_next h =
        record {
          count = c.count;
          few = omega arith;
          long = length-set run (at + k) (get_or piece k 0) ∙ c.long;
          so =
              ap (λ (l : List ℕ). set l (at + k) (get_or piece k 0)) c.so
              ∙ paste-suc run₀ at piece k 0 (omega (arith, c.count)) (omega (arith, c.count))
              ∙ ap (paste run₀ at piece) (sym (add-one k));
        }

    pub copied-done : n ≤ k → run ≡ take at run₀ ++ piece ++ drop (at + length piece) run₀
    copied-done h =
        let e : k ≡ length piece = omega (arith, c.count, c.few) in
        c.so ∙ ap (paste run₀ at piece) e ∙ ap (λ (l : List ℕ). take at run₀ ++ l ++ drop (at + length piece) run₀) (take-length piece)

-- an array of four is its elements
four : (l : List ℕ) → length l ≡ arg_places → l ≡ get_or l 0 0 ∷ get_or l 1 0 ∷ get_or l 2 0 ∷ get_or l 3 0 ∷ []
four l e = ext_get_or 0 l (get_or l 0 0 ∷ get_or l 1 0 ∷ get_or l 2 0 ∷ get_or l 3 0 ∷ []) e (λ k h. at k (omega arith))
  where
    at : (k : ℕ) → k < 4 → get_or l k 0 ≡ get_or (get_or l 0 0 ∷ get_or l 1 0 ∷ get_or l 2 0 ∷ get_or l 3 0 ∷ []) k 0
    at zero h = refl
    at (suc zero) h = refl
    at (suc (suc zero)) h = refl
    at (suc (suc (suc zero))) h = refl
    at (suc (suc (suc (suc k)))) h = absurd (omega arith)

-- what a piece that ends in an array of four writes
module _ (size : ℕ) (run exit : List ℕ) (n : ℕ) (l : List ℕ) (long : length l ≡ arg_places) where
  pub four-row : (s c : ℕ) → exit ≡ put size run n (s ∷ c ∷ get_or l 0 0 ∷ get_or l 1 0 ∷ get_or l 2 0 ∷ get_or l 3 0 ∷ []) → exit ≡ put size run n (s ∷ c ∷ l)
  four-row s c e = e ∙ ap (λ (p : List ℕ). put size run n (s ∷ c ∷ p)) (sym (four l long))

  pub four-pattern : (k h c : ℕ) → exit ≡ put size run n (k ∷ h ∷ c ∷ get_or l 0 0 ∷ get_or l 1 0 ∷ get_or l 2 0 ∷ get_or l 3 0 ∷ []) → exit ≡ put size run n (k ∷ h ∷ c ∷ l)
  four-pattern k h c e = e ∙ ap (λ (p : List ℕ). put size run n (k ∷ h ∷ c ∷ p)) (sym (four l long))

-- ---- one piece more

-- piece i of a run
abbrev piece : ℕ → List ℕ → ℕ → List ℕ
piece size run i = take size (drop (i * size) run)

-- what is read at a place and looks at its piece alone
abbrev Local : {A : Type 0} → ℕ → (List ℕ → ℕ → A) → Type 0
Local size g = (l m : List ℕ) (i j : ℕ) → piece size l i ≡ piece size m j → g l i ≡ g m j

each_same : {A : Type 0} (g h : ℕ → A) (n : ℕ) → ((i : ℕ) → i < n → g i ≡ h i) → each g n ≡ each h n
unfolding each
each_same g h zero f = refl
each_same {A} g h (suc n) f = ap₂ (λ (l : List A) (x : A). l ++ (x ∷ [])) (each_same g h n (λ i l. f i (omega arith))) (f n (omega arith))

-- a run of n pieces, and one more
module _ {A : Type 0} (size : ℕ) (g : List ℕ → ℕ → A) (local : Local size g) (w v : List ℕ) (n : ℕ) (ew : length w ≡ n * size) (ev : length v ≡ size) where
  before : (i : ℕ) → i < n → piece size (w ++ v) i ≡ piece size w i
  before i h =
      let room : i * size + size ≤ n * size = rw (sym (suc-mul i size)) (mul-le-mul_right size h) in
      ap (take size) (drop-append-le (i * size) w v (omega arith))
      ∙ take-append-le size (drop (i * size) w) v (omega (arith, length-drop (i * size) w))

  last : piece size (w ++ v) n ≡ piece size v 0
  last = ap (take size) (drop_at w v (n * size) ew) ∙ ap (λ (k : ℕ). take size (drop k v)) (sym (zero-mul size))

  pub each-grown : each (g (w ++ v)) (suc n) ≡ each (g w) n ++ (g v 0 ∷ [])
  unfolding each
  each-grown =
      ap₂ (λ (l : List A) (x : A). l ++ (x ∷ []))
      (each_same (g (w ++ v)) (g w) n (λ i h. local (w ++ v) w i i (before i h)))
      (local (w ++ v) v n 0 last)

-- ---- what is read at a place looks at its piece alone

part : (x c n : ℕ) (l : List ℕ) → x + c ≤ n → take c (drop x (take n l)) ≡ take c (drop x l)
part zero c n l h = take-take c n l (omega arith)
part (suc x) c zero l h = absurd (omega arith)
part (suc x) c (suc n) [] h = refl
part (suc x) c (suc n) (a ∷ l) h = part x c n l (omega arith)

module _ (size : ℕ) (l m : List ℕ) (i j : ℕ) (e : piece size l i ≡ piece size m j) where
  number-local : (x : ℕ) → x < size → get_or l (i * size + x) 0 ≡ get_or m (j * size + x) 0
  number-local x h = sym (one l i) ∙ ap (λ (p : List ℕ). get_or p x 0) e ∙ one m j
    where
      one : (r : List ℕ) (k : ℕ) → get_or (piece size r k) x 0 ≡ get_or r (k * size + x) 0
      one r k = get_or-take size (drop (k * size) r) x 0 h ∙ get_or-drop (k * size) r x 0

  first-local : 0 < size → get_or l (i * size) 0 ≡ get_or m (j * size) 0
  first-local h =
      let p : i * size + 0 ≡ i * size = omega arith in
      let q : j * size + 0 ≡ j * size = omega arith in
      rw (p, q) at (number-local 0 h)

  places-local : (x : ℕ) → x + arg_places ≤ size → take arg_places (drop (i * size + x) l) ≡ take arg_places (drop (j * size + x) m)
  places-local x h = sym (all l i) ∙ ap (λ (p : List ℕ). take arg_places (drop x p)) e ∙ all m j
    where
      all : (r : List ℕ) (k : ℕ) → take arg_places (drop x (piece size r k)) ≡ take arg_places (drop (k * size + x) r)
      all r k = part x arg_places size (drop (k * size) r) h ∙ ap (take arg_places) (drop-drop x (k * size) r)

row-local : Local row_size row_in
row-local l m i j e =
    rw (first-local row_size l m i j e (omega arith), number-local row_size l m i j e 1 (omega arith), places-local row_size l m i j e 2 (omega arith))

statement-local : Local said_size statement_in
statement-local l m i j e =
    rw (first-local said_size l m i j e (omega arith), number-local said_size l m i j e 1 (omega arith), number-local said_size l m i j e 2 (omega arith))

pattern-local : Local pattern_size pattern_in
pattern-local l m i j e =
    rw (first-local pattern_size l m i j e (omega arith), number-local pattern_size l m i j e 1 (omega arith), number-local pattern_size l m i j e 2 (omega arith), places-local pattern_size l m i j e 3 (omega arith))

literal-local : Local literal_size literal_in
literal-local l m i j e =
    rw (first-local literal_size l m i j e (omega arith), number-local literal_size l m i j e 1 (omega arith), number-local literal_size l m i j e 2 (omega arith))

-- ---- runs with one piece more

module _ (w v : List ℕ) (n : ℕ) where
  pub rows_more : length w ≡ n * row_size → length v ≡ row_size → rows_of (w ++ v) ≡ rows_of w ++ (row_in v 0 ∷ [])
  unfolding rows_of
  rows_more ew ev =
      let all : length (w ++ v) / row_size ≡ suc n = omega (arith, length-append w v) in
      let old : length w / row_size ≡ n = omega arith in
      rw (all, old) (each-grown row_size row_in row-local w v n ew ev)

  pub statements-more : length w ≡ n * said_size → length v ≡ said_size → statements_of (w ++ v) ≡ statements_of w ++ (statement_in v 0 ∷ [])
  unfolding statements_of
  statements-more ew ev =
      let all : length (w ++ v) / said_size ≡ suc n = omega (arith, length-append w v) in
      let old : length w / said_size ≡ n = omega arith in
      rw (all, old) (each-grown said_size statement_in statement-local w v n ew ev)

  pub patterns-more : length w ≡ n * pattern_size → length v ≡ pattern_size → patterns_of (w ++ v) ≡ patterns_of w ++ (pattern_in v 0 ∷ [])
  unfolding patterns_of
  patterns-more ew ev =
      let all : length (w ++ v) / pattern_size ≡ suc n = omega (arith, length-append w v) in
      let old : length w / pattern_size ≡ n = omega arith in
      rw (all, old) (each-grown pattern_size pattern_in pattern-local w v n ew ev)

  pub literals-more : length w ≡ n * literal_size → length v ≡ literal_size → literals_of (w ++ v) ≡ literals_of w ++ (literal_in v 0 ∷ [])
  unfolding literals_of
  literals-more ew ev =
      let all : length (w ++ v) / literal_size ≡ suc n = omega (arith, length-append w v) in
      let old : length w / literal_size ≡ n = omega arith in
      rw (all, old) (each-grown literal_size literal_in literal-local w v n ew ev)

-- ---- runs that were written to

pub put_front : (size : ℕ) (run : List ℕ) (n : ℕ) (v : List ℕ) → n * size + size ≤ length run → length v ≡ size
    → take ((n + 1) * size) (put size run n v) ≡ take (n * size) run ++ v
put_front size run n v room e =
    take_at (take (n * size) run ++ v) (drop (n * size + size) run) ((n + 1) * size)
    (length-append (take (n * size) run) v
    ∙ ap₂ ◌+◌ (length-take-le (n * size) run (omega arith)) e
    ∙ sym (ap (◌* size) (add-one n) ∙ suc-mul n size))

module _ (run exit : List ℕ) (n : ℕ) where
  module _ (l : List ℕ) (long : length l ≡ arg_places) (c : ℕ) where
    places : take c (take arg_places l) ≡ take c l
    places = ap (take c) (take_all arg_places l (omega arith))

    pub put-row-more : (s : ℕ) → n * row_size + row_size ≤ length run → exit ≡ put row_size run n (s ∷ c ∷ l)
        → rows_of (take ((n + 1) * row_size) exit) ≡ rows_of (take (n * row_size) run) ++ (record { symbol = s; args = take c l } ∷ [])
    put-row-more s room e =
        rw (e, put_front row_size run n (s ∷ c ∷ l) room (omega arith))
        (rows_more (take (n * row_size) run) (s ∷ c ∷ l) n (length-take-le (n * row_size) run (omega arith)) (omega arith)
        ∙ ap (λ (a : List ℕ). rows_of (take (n * row_size) run) ++ (record { symbol = s; args = a } ∷ [])) places)

    pub put-pattern-more : (k h : ℕ) → n * pattern_size + pattern_size ≤ length run → exit ≡ put pattern_size run n (k ∷ h ∷ c ∷ l)
        → patterns_of (take ((n + 1) * pattern_size) exit) ≡ patterns_of (take (n * pattern_size) run) ++ (pattern_of k h (take c l) ∷ [])
    put-pattern-more k h room e =
        rw (e, put_front pattern_size run n (k ∷ h ∷ c ∷ l) room (omega arith))
        (patterns-more (take (n * pattern_size) run) (k ∷ h ∷ c ∷ l) n (length-take-le (n * pattern_size) run (omega arith)) (omega arith)
        ∙ ap (λ (a : List ℕ). patterns_of (take (n * pattern_size) run) ++ (pattern_of k h a ∷ [])) places)

  module _ (k p q : ℕ) where
    pub put-said-more : n * said_size + said_size ≤ length run → exit ≡ put said_size run n (k ∷ p ∷ q ∷ [])
        → statements_of (take ((n + 1) * said_size) exit) ≡ statements_of (take (n * said_size) run) ++ (statement_of k p q ∷ [])
    put-said-more room e =
        rw (e, put_front said_size run n (k ∷ p ∷ q ∷ []) room refl)
        (statements-more (take (n * said_size) run) (k ∷ p ∷ q ∷ []) n (length-take-le (n * said_size) run (omega arith)) refl)

    pub put-literal-more : n * literal_size + literal_size ≤ length run → exit ≡ put literal_size run n (k ∷ p ∷ q ∷ [])
        → literals_of (take ((n + 1) * literal_size) exit) ≡ literals_of (take (n * literal_size) run) ++ (literal_of k p q ∷ [])
    put-literal-more room e =
        rw (e, put_front literal_size run n (k ∷ p ∷ q ∷ []) room refl)
        (literals-more (take (n * literal_size) run) (k ∷ p ∷ q ∷ []) n (length-take-le (n * literal_size) run (omega arith)) refl)

pub ruleset mine = (rules, copied-start, copied_next, copied-done, four-row, four-pattern)
