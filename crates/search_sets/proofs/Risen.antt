-- A row that is a symbol, written from the context rows that fit, leaves out no assignment that is sought.
--     may-long, may-each, may_of    arguments that can have some classes, place by place
--     size-unique         a set without two members has one at most
--     fits_in, fits-of    a context row fits in words exactly where it fits
--     rise-keeps          what is promised
-- Assumes nothing.
use mathlib.Core.Bool.{Bool, true, false, not, ◌&&◌, ◌||◌}
use mathlib.Core.List.{List, [], ◌∷◌, map}
use mathlib.Core.Path.{◌≡◌, refl, ap, ap₂, sym, ◌∙◌, subst}
use mathlib.Core.Logic.{◌⊎◌}
use Prim.Native.Nat.{ℕ, zero, suc, ◌+◌, ◌*◌, ◌≤◌, ◌<◌}
use native.Mathlib.Omega.{arith}
use borrow.Author.Rules.{rules}
use borrow.Author.Tests.{eqb-true, eq-eqb, not-true, le-leb}
use lib.Dec.{eqb, leb}
use lib.ListN.{length, get_or}
use Rattle.meaning.specs.Context.{Row, row_at}
use Rattle.meaning.specs.Rules.{Pattern, apply, Below}
use Rattle.meaning.specs.Values.{pattern₀, pattern_at, number_at, numbers}
use Rattle.meaning.proofs.Logic.{and-true-left, and-true-right, and_both, false-true}
use Rattle.bits.specs.Sets.{size, bit_at, has}
use Rattle.runs.specs.Limits.{pattern_size, row_size}
use Rattle.runs.specs.Runs.{row_count, symbol_in, count_in, arg_in, args_in, row_in, pattern_count, head_in, pattern_count_in, pattern_arg_in, pattern_args_in}
use Rattle.runs.proofs.Saying.{length-rows, rows-at, patterns-at, arg-at, args-length, row-length, pattern-symbol}
use Rattle.matching.specs.Possible.{Possible, may}
use Rattle.matching.specs.InWords.{possible_of}
use Rattle.matching.specs.Steps.{fits, fitting, reached, fixed}
use Rattle.matching.proofs.Numbers.{Held, Free}
use Rattle.matching.proofs.Numbered.{Numbered}
use Rattle.matching.proofs.Sets.{row_here, row-there}
use Rattle.matching.proofs.Upward.{upward-in}
use Rattle.matching.proofs.Pruning.{told}
use Rattle.search_sets.specs.Places.{known_at, outside_at, possible_in}
use Rattle.search_sets.specs.Keeps.{Setting, Fits, AllowedIn, Keeps}
use Rattle.search_sets.specs.Words.{Told}
use Rattle.search_sets.specs.Rising.{RowsOf, Symbol, FitsIn, Fitting, Gathered, PatternAsk, KnownArgs, FixedArg, FixedArgs, KnownSymbol}
use Rattle.search_sets.proofs.Changed.{Allowed, sets-apart, changed_then, changed-told, has_same, row-anew}

-- ---- arguments, place by place

may-long : (classes : ℕ → ℕ → Bool) (l xs : List ℕ) → may classes l xs ≡ true → length l ≡ length xs
unfolding may
may-long classes [] [] e = refl
may-long classes [] (x ∷ xs) e = false-true e refl
may-long classes (a ∷ l) [] e = false-true e refl
may-long classes (a ∷ l) (x ∷ xs) e = ap suc (may-long classes l xs (and-true-right (classes a x) (may classes l xs) e))

may-each : (classes : ℕ → ℕ → Bool) (l xs : List ℕ) → may classes l xs ≡ true → (k : ℕ) → k < length l → classes (get_or l k 0) (get_or xs k 0) ≡ true
unfolding may
may-each classes [] xs e k h = absurd (omega arith)
may-each classes (a ∷ l) [] e k h = false-true e refl
may-each classes (a ∷ l) (x ∷ xs) e zero h = and-true-left (classes a x) (may classes l xs) e
may-each classes (a ∷ l) (x ∷ xs) e (suc k) h = may-each classes l xs (and-true-right (classes a x) (may classes l xs) e) k (omega arith)

pub may_of : (classes : ℕ → ℕ → Bool) (l xs : List ℕ) → length l ≡ length xs → ((k : ℕ) → k < length l → classes (get_or l k 0) (get_or xs k 0) ≡ true) → may classes l xs ≡ true
unfolding may
may_of classes [] [] n f = refl
may_of classes [] (x ∷ xs) n f = absurd (omega arith)
may_of classes (a ∷ l) [] n f = absurd (omega arith)
may_of classes (a ∷ l) (x ∷ xs) n f =
    and_both (classes a x) (may classes l xs) (f 0 (omega arith)) (may_of classes l xs (omega arith) (λ k h. f (suc k) (omega arith)))

map-long : (g : ℕ → ℕ) (l : List ℕ) → length (map g l) ≡ length l
map-long g [] = refl
map-long g (x ∷ l) = ap suc (map-long g l)

map_at : (g : ℕ → ℕ) (l : List ℕ) (k : ℕ) → k < length l → get_or (map g l) k 0 ≡ g (get_or l k 0)
map_at g [] k h = absurd (omega arith)
map_at g (x ∷ l) zero h = refl
map_at g (x ∷ l) (suc k) h = map_at g l k (omega arith)

-- ---- one member at most

size-empty : (n : ℕ) (set : ℕ → Bool) → ((x : ℕ) → x < n → set x ≡ false) → size n set ≡ 0
unfolding size
size-empty zero set f = refl
size-empty (suc n) set f = go (set n) refl (size-empty n set (λ x h. f x (omega arith)))
  where
    go : (b : Bool) → set n ≡ b → size n set ≡ 0 → size (suc n) set ≡ 0
    go true e i = false-true e (f n (omega arith))
    go false e i = rw (e, size) i

pub size-unique : (n : ℕ) (set : ℕ → Bool) → ((x y : ℕ) → x < n → y < n → set x ≡ true → set y ≡ true → x ≡ y) → size n set ≤ 1
unfolding size
size-unique zero set f = omega arith
size-unique (suc n) set f = go (set n) refl (size-unique n set (λ x y h l. f x y (omega arith) (omega arith)))
  where
    none : set n ≡ true → (x : ℕ) → x < n → (b : Bool) → set x ≡ b → set x ≡ false
    none e x h true t = absurd (omega (arith, f x n (omega arith) (omega arith) t e))
    none e x h false t = t

    go : (b : Bool) → set n ≡ b → size n set ≤ 1 → size (suc n) set ≤ 1
    go true e i = rw (e, size) (omega (arith, size-empty n set (λ x h. none e x h (set x) refl)))
    go false e i = rw (e, size) i

-- ---- context rows

module _ (rows table patterns old : List ℕ) (width p : ℕ) (h : KnownSymbol rows table patterns old width p) (s : Setting) (f : Fits (pattern_count patterns) width s)
    (k : RowsOf rows table patterns s) where
  abbrev count : ℕ
  count = pattern_count patterns

  abbrev P : Possible
  P = possible_in count width old

  abbrev head : ℕ
  head = head_in patterns p

  abbrev over : List ℕ
  over = pattern_args_in patterns p

  pub over-long : length over ≡ pattern_count_in patterns p
  over-long = args-length patterns (p * pattern_size + 3) (pattern_count_in patterns p) (omega (arith, h.symbol.row.row)) h.symbol.args.few

  pub over-at : (j : ℕ) → j < pattern_count_in patterns p → get_or over j 0 ≡ pattern_arg_in patterns p j
  over-at j l = arg-at patterns (p * pattern_size + 3) (pattern_count_in patterns p) j l h.symbol.args.few

  pub pattern-is : pattern_at s.rule.patterns p ≡ apply head over
  pattern-is = ap (λ (l : List Pattern). pattern_at l p) k.pattern ∙ patterns-at patterns p pattern₀ h.symbol.row.row ∙ pattern-symbol patterns p h.symbol.kind

  pub row_is : (i : ℕ) → i < row_count rows → row_at s.rows i ≡ row_in rows i
  row_is i l = ap (λ (r : List Row). row_at r i) k.said ∙ rows-at rows i l

  pub rows_long : length s.rows ≡ row_count rows
  rows_long = ap length k.said ∙ length-rows rows

  class-is : (j x : ℕ) → j < pattern_count_in patterns p → P.classes (get_or over j 0) x ≡ has old (pattern_arg_in patterns p j * width) x
  unfolding possible_in possible_of
  class-is j x l = ap (λ (q : ℕ). P.classes q x) (over-at j l) ∙ ap (λ (b : Bool). not b || has old (pattern_arg_in patterns p j * width) x) (h.known.known refl j l)

  pub entry-is : (i j : ℕ) → i < row_count rows → j < count_in rows i → get_or (map s.rep (args_in rows i)) j 0 ≡ get_or table (arg_in rows i j) 0
  entry-is i j l m =
      let few : count_in rows i ≤ 4 = (h.symbol.placed.each i l).few in
      map_at s.rep (args_in rows i) j (omega (arith, row-length rows i l few))
      ∙ k.entry (get_or (args_in rows i) j 0)
      ∙ ap (λ (n : ℕ). get_or table n 0) (arg-at rows (i * row_size + 2) (count_in rows i) j m few)

  row-long : (i : ℕ) → i < row_count rows → length (map s.rep (args_in rows i)) ≡ count_in rows i
  row-long i l = map-long s.rep (args_in rows i) ∙ row-length rows i l (h.symbol.placed.each i l).few

  abbrev fits_at : ℕ → Bool
  fits_at i = fits s.rows s.rep s.bound s.rule.patterns P head over (row_at s.rows i)

  abbrev may_at : ℕ → Bool
  may_at i = may P.classes over (map s.rep (args_in rows i))

  fits-is : (i : ℕ) → i < row_count rows → fits_at i ≡ (eqb head (symbol_in rows i) && may_at i)
  unfolding fits
  fits-is i l = ap (fits s.rows s.rep s.bound s.rule.patterns P head over) (row_is i l)

  pub fits_in : (i : ℕ) → i < row_count rows → fits_at i ≡ true → FitsIn rows table patterns old width p i
  fits_in i l t =
      let e : (eqb head (symbol_in rows i) && may_at i) ≡ true = sym (fits-is i l) ∙ t in
      let m : may_at i ≡ true = and-true-right (eqb head (symbol_in rows i)) (may_at i) e in
      let n : count_in rows i ≡ pattern_count_in patterns p = omega (arith, may-long P.classes over (map s.rep (args_in rows i)) m, over-long, row-long i l) in
      record {
        head = record { symbol = sym (eqb-true head (symbol_in rows i) (and-true-left (eqb head (symbol_in rows i)) (may_at i) e)); count = n };
        args = λ j b.
            ap (has old (pattern_arg_in patterns p j * width)) (sym (entry-is i j l b))
            ∙ sym (class-is j (get_or (map s.rep (args_in rows i)) j 0) (omega (arith, n, b)))
            ∙ may-each P.classes over (map s.rep (args_in rows i)) m j (omega (arith, over-long, n, b));
      }

  fits-of : (i : ℕ) → i < row_count rows → FitsIn rows table patterns old width p i → fits_at i ≡ true
  fits-of i l t =
      fits-is i l
      ∙ and_both (eqb head (symbol_in rows i)) (may_at i) (eq-eqb head (symbol_in rows i) (sym t.head.symbol))
      (may_of P.classes over (map s.rep (args_in rows i)) (omega (arith, over-long, row-long i l, t.head.count))
      (λ j b.
      let m : j < count_in rows i = omega (arith, over-long, t.head.count, b) in
      class-is j (get_or (map s.rep (args_in rows i)) j 0) (omega (arith, over-long, b))
      ∙ ap (has old (pattern_arg_in patterns p j * width)) (entry-is i j l m)
      ∙ t.args j m))

  -- ---- arguments that are fixed

  fixed-list : (l : List ℕ) → ((j : ℕ) → j < length l → (P.outside (get_or l j 0) ≡ false) × (size s.bound (P.classes (get_or l j 0)) ≤ 1))
      → fixed s.rows s.rep s.bound s.rule.patterns P l ≡ true
  unfolding fixed
  fixed-list [] g = refl
  fixed-list (a ∷ l) g =
      and_both (not (P.outside a) && leb (size s.bound (P.classes a)) 1) (fixed s.rows s.rep s.bound s.rule.patterns P l)
      (and_both (not (P.outside a)) (leb (size s.bound (P.classes a)) 1) (ap not (g 0 (omega arith)).0) (le-leb (size s.bound (P.classes a)) 1 (g 0 (omega arith)).1))
      (fixed-list l (λ j b. g (suc j) (omega arith)))

  fixed_of : FixedArgs patterns old width p (pattern_count_in patterns p) true → fixed s.rows s.rep s.bound s.rule.patterns P over ≡ true
  unfolding possible_in possible_of
  fixed_of g = fixed-list over each
    where
      each : (j : ℕ) → j < length over → (P.outside (get_or over j 0) ≡ false) × (size s.bound (P.classes (get_or over j 0)) ≤ 1)
      each j b =
          let m : j < pattern_count_in patterns p = omega (arith, over-long, b) in
          let w : FixedArg old count width (pattern_arg_in patterns p j) = g.fixed refl j m in (
            ap P.outside (over-at j m)
                ∙ ap₂ (λ (x y : Bool). not x || y) (h.known.known refl j m) w.inside,
            size-unique s.bound (P.classes (get_or over j 0))
                (λ x y bx by tx ty.
                w.one.one refl x y (omega (arith, f.within, bx)) (omega (arith, f.within, by)) (sym (class-is j x m) ∙ tx) (sym (class-is j y m) ∙ ty)),
          )

  -- ---- the row

  module _ (mid new : List ℕ) (is_fixed found : Bool) (fx : FixedArgs patterns old width p (pattern_count_in patterns p) is_fixed)
      (g : Gathered rows table patterns old mid width p (row_count rows) found) (t : Told mid new (known_at (pattern_count patterns) width) p (not (is_fixed && found))) where
    class-in : (x : ℕ) → x < s.bound → reached s.rows s.rep s.bound s.rule.patterns P head over x ≡ true → has new (p * width) x ≡ true
    unfolding reached
    class-in x l e =
        let w : (j : ℕ) × (j < length s.rows) × ((fits s.rows s.rep s.bound s.rule.patterns P head over (row_at s.rows j) && eqb x (s.rep j)) ≡ true) =
        row-there (λ i r. fits s.rows s.rep s.bound s.rule.patterns P head over r && eqb x (s.rep i)) s.rows e in
        let b : w.0 < row_count rows = omega (arith, w.1, rows_long) in
        let z : x ≡ get_or table w.0 0 = eqb-true x (s.rep w.0) (and-true-right (fits_at w.0) (eqb x (s.rep w.0)) w.2) ∙ k.entry w.0 in
        has_same width mid new (p * width) (p * width) (λ j m. t.others (p * width + j) (omega (arith, sets-apart width p (count + 4) (omega (arith, h.symbol.row.row))))) x (omega (arith, f.within))
        ∙ ap (has mid (p * width)) z
        ∙ g.reach w.0 b (fits_in w.0 b (and-true-left (fits_at w.0) (eqb x (s.rep w.0)) w.2))

    fitting-of : found ≡ true → fitting s.rows s.rep s.bound s.rule.patterns P head over ≡ true
    unfolding fitting
    fitting-of e =
        let w : Fitting rows table patterns old width p (row_count rows) = g.some e in
        row_here (λ i r. fits s.rows s.rep s.bound s.rule.patterns P head over r) s.rows w.row (omega (arith, w.below, rows_long)) (fits-of w.row w.below w.fits)

    abbrev out_now : Bool
    out_now = not (fixed s.rows s.rep s.bound s.rule.patterns P over && fitting s.rows s.rep s.bound s.rule.patterns P head over)

    flag-in : out_now ≡ true → bit_at (get_or new (outside_at count width) 0) p ≡ true
    flag-in e = t.outside.here ∙ go is_fixed found refl refl
      where
        go : (x y : Bool) → is_fixed ≡ x → found ≡ y → not (x && y) ≡ true
        go false y ex ey = refl
        go true false ex ey = refl
        go true true ex ey =
            let u : (fixed s.rows s.rep s.bound s.rule.patterns P over && fitting s.rows s.rep s.bound s.rule.patterns P head over) ≡ true =
            and_both (fixed s.rows s.rep s.bound s.rule.patterns P over) (fitting s.rows s.rep s.bound s.rule.patterns P head over)
            (fixed_of (subst (FixedArgs patterns old width p (pattern_count_in patterns p)) ex fx)) (fitting-of ey) in
            false-true u (not-true (fixed s.rows s.rep s.bound s.rule.patterns P over && fitting s.rows s.rep s.bound s.rule.patterns P head over) e)

    pub rise-allowed : (a : List ℕ) (w : AllowedIn s (pattern_count patterns) width old a) → Allowed s (pattern_count patterns) width f a w.sought (possible_in (pattern_count patterns) width new)
    rise-allowed a w =
        row-anew s count width f a w.sought p (reached s.rows s.rep s.bound s.rule.patterns P head over) out_now old new h.symbol.row.row
        (changed_then count width old mid new p g.changed (changed-told count width mid new p (not (is_fixed && found)) t))
        class-in
        flag-in
        (upward-in s.rows s.rep s.bound s.offset s.rule.patterns f.table a (numbers s.rows s.rep s.offset s.rule.patterns a) numbered P w.allowed p low head over
        applied.0
        applied.1)
        w.allowed
      where
        ns : List ℕ
        ns = numbers s.rows s.rep s.offset s.rule.patterns a

        low : p < length s.rule.patterns
        low = omega (arith, f.counted, h.symbol.row.row)

        numbered : Numbered s.rows s.rep s.bound s.offset s.rule.patterns a ns
        numbered = told s.differs s.rows s.rep s.bound s.offset s.rule f.table f.placed a w.sought

        applied : Below (length s.rule.patterns) over
            × (Held s.rows s.rep s.offset s.rule.patterns ns head over (number_at ns p) ⊎ Free s.rows s.rep s.offset s.rule.patterns numbered.done ns head over (number_at ns p))
        applied = numbered.applied p head over low pattern-is

-- ---- what is promised

pub rise-keeps : (rows table patterns old mid new : List ℕ) (width p t : ℕ) (is_fixed found out : Bool) → KnownSymbol rows table patterns old width p
    → FixedArgs patterns old width p (pattern_count_in patterns p) is_fixed → Gathered rows table patterns old mid width p (row_count rows) found → t ≡ known_at (pattern_count patterns) width
    → out ≡ not (is_fixed && found) → Told mid new t p out → Keeps (RowsOf rows table patterns) (pattern_count patterns) width old new
rise-keeps rows table patterns old mid new width p t is_fixed found out h fx g et eo u =
    record {
      long = u.long ∙ g.changed.long;
      keeps = λ s f k a w. record { sought = w.sought; allowed = rise-allowed rows table patterns old width p h s f k mid new is_fixed found fx g (rw (et, eo) at u) a w };
    }

pub rise-unknown : (Kind : Setting → Type 0) (count width : ℕ) (sets : List ℕ) → Keeps Kind count width sets sets
rise-unknown Kind count width sets = record { long = refl; keeps = λ s f k a w. w }

pub known-symbol : (rows table patterns sets : List ℕ) (width p : ℕ) (r : Bool) → Symbol rows table patterns (length sets) width p → KnownArgs patterns sets width p (pattern_count_in patterns p) r → r ≡ true
    → KnownSymbol rows table patterns sets width p
known-symbol rows table patterns sets width p r h k e = record { symbol = h; known = subst (KnownArgs patterns sets width p (pattern_count_in patterns p)) e k }

pub symbol-pattern : (rows table patterns : List ℕ) (size width p : ℕ) → Symbol rows table patterns size width p → PatternAsk patterns size width p
symbol-pattern rows table patterns size width p h = record { row = h.row; args = h.args }

pub known-pattern : (rows table patterns sets : List ℕ) (size width p : ℕ) → KnownSymbol rows table patterns sets width p → size ≡ length sets → PatternAsk patterns size width p
known-pattern rows table patterns sets size width p h e = subst (λ (n : ℕ). PatternAsk patterns n width p) (sym e) (record { row = h.symbol.row; args = h.symbol.args })

pub known-whole : (rows table patterns sets : List ℕ) (size width p : ℕ) → KnownSymbol rows table patterns sets width p → size ≡ length sets → Symbol rows table patterns size width p
known-whole rows table patterns sets size width p h e = subst (λ (n : ℕ). Symbol rows table patterns n width p) (sym e) h.symbol

pub tell-room : (rows table patterns old mid : List ℕ) (size width p n t : ℕ) (r : Bool) → KnownSymbol rows table patterns old width p → Gathered rows table patterns old mid width p n r
    → t ≡ known_at (pattern_count patterns) width → size ≡ length mid → t + 1 < size
tell-room rows table patterns old mid size width p n t r h g et es = omega (arith, et, es, g.changed.long, h.symbol.row.room.long)

pub ruleset mine = (rules, rise-keeps, rise-unknown, known-symbol, symbol-pattern, known-pattern, known-whole, tell-room)
