-- Runs filled piece by piece.
--     Laying                        the first i pieces are written, and the rest is zeros
--     laying-start, laying-done     nothing so far, and all; where there are too many, one more piece of zeros is told
--     rows_next .. literals-next    one piece more
--     part-rows .. find-laid        the parts are lent
--     mine                          what a search in the functions' proofs is handed
-- Assumes nothing.
use mathlib.Core.Bool.{Bool, true, false}
use mathlib.Core.List.{List, [], ◌∷◌, ◌++◌, map}
use mathlib.Core.Path.{◌≡◌, refl, sym, ap, ap₂, ◌∙◌}
use Prim.Native.Nat.{ℕ, zero, suc, ◌+◌, ◌-◌, ◌*◌, ◌≤◌, ◌<◌}
use native.Mathlib.Nat.{suc-mul, zero-mul, mul-le-mul_right}
use native.Mathlib.Numerals.{add-one}
use native.Mathlib.Omega.{arith}
use borrow.Author.Rules.{rules}
use borrow.Author.Tests.{ltb-true, ltb-false}
use lib.Dec.{ltb}
use lib.ListN.{length, get_or, take, drop, replicate, length-append, length-replicate, length-take, length-drop, length-map, get_or-eq_default}
use lib.Seq.{take_at, take_all, drop-append-add, drop-drop}
use Rattle.runs.specs.Limits.{most_rows, most_statements, most_patterns, most_literals, row_size, said_size, pattern_size, literal_size, arg_places}
use Rattle.runs.specs.Runs.{put}
use Rattle.runs.proofs.Zeros.{drop-zeros}
use Rattle.records.specs.declared.ClauseColumns.{ClauseColumns}
use Rattle.classes.specs.Claims.{Closes}
use Rattle.classes.specs.declared.Classes.{Classes}
use Rattle.records.specs.declared.Row.{Row}
use Rattle.records.specs.declared.Statements.{Statements}
use Rattle.records.specs.declared.Table.{Table}
use Rattle.std.specs.Prelude.{Option}
use Rattle.replies.specs.declared.Reply.{Reply}
use Rattle.records.specs.Records.{no_row}
use Rattle.records.specs.Layouts.{told, least, joined, places_at, row_numbers, row_piece, said_piece, pattern_piece, literal_piece, rows_laid, said_laid, patterns_laid, literals_laid}
use Rattle.records.specs.Claims.{ClosedTable, FindsRuns, FindsTable}
use Rattle.records.proofs.Joining.{joined_length, told-all, told_over, told-min, least-all, least-over, least-min}

-- the places of the runs, with room for one piece more than the most, and those for the arguments of a rule in columns
abbrev row_space : ℕ
row_space = suc most_rows * row_size

abbrev said_space : ℕ
said_space = suc most_statements * said_size

abbrev pattern_space : ℕ
pattern_space = suc most_patterns * pattern_size

abbrev literal_space : ℕ
literal_space = suc most_literals * literal_size

abbrev pattern_places : ℕ
pattern_places = most_patterns * arg_places

-- the first i of n pieces
pub record Laying (g : ℕ → List ℕ) (size most n : ℕ) (run : List ℕ) (i : ℕ) : Type 0 where
  pub fewer : i ≤ n
  pub few : n ≤ most
  pub long : length run ≡ suc most * size
  pub so : run ≡ joined g i ++ drop (i * size) (replicate (suc most * size) 0)

module _ (g : ℕ → List ℕ) (size most n : ℕ) where
  start : (run : List ℕ) → run ≡ replicate (suc most * size) 0 → n ≤ most → Laying g size most n run 0
  unfolding joined
  start run e h =
      record {
        fewer = omega arith;
        few = h;
        long = ap length e ∙ length-replicate {A = ℕ} (suc most * size) 0;
        so = e ∙ (let z : 0 * size ≡ 0 = zero-mul size in rw z);
      }

  module _ (sized : (i : ℕ) → length (g i) ≡ size) (run : List ℕ) (i : ℕ) (l : Laying g size most n run i) where
    abbrev J : List ℕ
    J = joined g i

    abbrev Z : List ℕ
    Z = replicate (suc most * size) 0

    room : i < n → i * size + size ≤ length run
    room h = let m : suc i * size ≤ suc most * size = mul-le-mul_right size (omega (arith, l.few)) in omega (arith, l.long, suc-mul i size)

    front : take (i * size) run ≡ J
    front = rw l.so (take_at J (drop (i * size) Z) (i * size) (joined_length g size sized i))

    behind : drop (i * size + size) run ≡ drop (i * size + size) Z
    behind =
        ap (drop (i * size + size)) l.so
        ∙ ap (λ (k : ℕ). drop (k + size) (J ++ drop (i * size) Z)) (sym (joined_length g size sized i))
        ∙ drop-append-add J (drop (i * size) Z) size
        ∙ drop-drop size (i * size) Z

    next : i < n → (new piece : List ℕ) → new ≡ put size run i piece → piece ≡ g i → Laying g size most n new (i + 1)
    unfolding joined
    next h new piece e f =
        let z : i * size + size ≡ suc i * size = omega (arith, suc-mul i size) in
        let y : drop (i * size + size) run ≡ drop (suc i * size) Z = behind ∙ ap (λ (k : ℕ). drop k Z) z in
        let m : new ≡ J ++ g i ++ drop (suc i * size) Z =
        e ∙ ap₂ (λ (x y : List ℕ). x ++ piece ++ y) front y ∙ ap (λ (p : List ℕ). J ++ p ++ drop (suc i * size) Z) f in
        let q : suc i * size ≤ suc most * size = mul-le-mul_right size (omega (arith, l.few)) in
        record {
          fewer = omega arith;
          few = l.few;
          long =
              ap length m
              ∙ length-append (J ++ g i) (drop (suc i * size) Z)
              ∙ (let a = length-append J (g i) in
              let c = length-drop (suc i * size) Z in
              omega (arith, a, c, joined_length g size sized i, sized i, suc-mul i size, length-replicate {A = ℕ} (suc most * size) 0));
          so = rw (add-one i) m;
        }

    done : (count : ℕ) → n ≡ least most count → n ≤ i → g most ≡ replicate size 0 → take (told most count * size) run ≡ joined g (told most count)
    unfolding joined
    done count e h last = go (ltb most count) refl
      where
        go : (b : Bool) → ltb most count ≡ b → take (told most count * size) run ≡ joined g (told most count)
        go false t =
            let few : count ≤ most = ltb-false most count t in
            let k : i ≡ count = omega (arith, l.fewer, least-all most count few) in
            rw (sym (told-all most count few), sym k) front
        go true t =
            let over : most < count = ltb-true most count t in
            let k : i ≡ most = omega (arith, l.fewer, least-over most count over) in
            let w : suc most * size - most * size ≡ size = omega (arith, suc-mul most size) in
            rw (sym (told_over most count over))
            (take_all (suc most * size) run (omega (arith, l.long))
            ∙ l.so
            ∙ rw k (ap (λ (x : List ℕ). joined g most ++ x) (drop-zeros (most * size) (suc most * size) ∙ rw w (sym last))))

-- ---- rows

same_at : (l : List Row) (i : ℕ) (d : Row) → i < length l → get_or l i d ≡ get_or l i no_row
same_at [] i d h = absurd (omega arith)
same_at (r ∷ l) zero d h = refl
same_at (r ∷ l) (suc i) d h = same_at l i d (omega arith)

-- a field that is an array of records is known by its length after a map
pub rows_long : {Y : Type 0} (f : Row → Y) (l : List Row) (n : ℕ) → length (map f l) ≡ n → length l ≡ n
rows_long f l n e = sym (length-map l f) ∙ e

module _ (rows : List Row) (n : ℕ) where
  pub rows_start : n ≤ most_rows → Laying (row_piece rows) row_size most_rows n (replicate row_space 0) 0
  rows_start h = start (row_piece rows) row_size most_rows n (replicate row_space 0) refl h

  module _ (run : List ℕ) (i : ℕ) (l : Laying (row_piece rows) row_size most_rows n run i) where
    pub rows-room : i < n → i * 6 + 6 ≤ length run
    rows-room h = room (row_piece rows) row_size most_rows n (λ j. refl) run i l h

    pub rows_inside : i < n → length rows ≡ most_rows → i < length rows
    rows_inside h e = omega (arith, l.few)

    pub rows_next : i < n → length rows ≡ most_rows → (new : List ℕ) (c : ℕ) (d : Row) → c ≡ (get_or rows i d).count
        → new ≡ put row_size run i ((get_or rows i d).symbol ∷ c ∷ get_or (get_or rows i d).args 0 0 ∷ get_or (get_or rows i d).args 1 0 ∷ get_or (get_or rows i d).args 2 0 ∷ get_or (get_or rows i d).args 3 0 ∷ [])
        → Laying (row_piece rows) row_size most_rows n new (i + 1)
    rows_next h e new c d f p =
        let z : get_or rows i d ≡ get_or rows i no_row = same_at rows i d (omega (arith, l.few)) in
        next (row_piece rows) row_size most_rows n (λ j. refl) run i l h new _ p (rw (f, z))

pub rows-done : (t : Table) (n : ℕ) (run : List ℕ) (i : ℕ) → Laying (row_piece t.rows) row_size most_rows n run i → n ≡ least most_rows t.count → n ≤ i → length t.rows ≡ most_rows
    → take (told most_rows t.count * 6) run ≡ rows_laid t
rows-done t n run i l e h long =
    let z : get_or t.rows most_rows no_row ≡ no_row = get_or-eq_default t.rows no_row (omega arith) in
    done (row_piece t.rows) row_size most_rows n (λ j. refl) run i l t.count e h (ap row_numbers z)

-- ---- statements

module _ (s : Statements) (n : ℕ) where
  pub said-start : n ≤ most_statements → Laying (said_piece s) said_size most_statements n (replicate said_space 0) 0
  said-start h = start (said_piece s) said_size most_statements n (replicate said_space 0) refl h

  module _ (run : List ℕ) (i : ℕ) (l : Laying (said_piece s) said_size most_statements n run i) where
    pub said-room : i < n → i * 3 + 3 ≤ length run
    said-room h = room (said_piece s) said_size most_statements n (λ j. refl) run i l h

    pub said-below : i < n → i < most_statements
    said-below h = omega (arith, l.few)

    pub said-next : i < n → (new : List ℕ) (c : ℕ) → c ≡ get_or s.kinds i 0 → new ≡ put said_size run i (c ∷ get_or s.lefts i 0 ∷ get_or s.rights i 0 ∷ [])
        → Laying (said_piece s) said_size most_statements n new (i + 1)
    said-next h new c f p = next (said_piece s) said_size most_statements n (λ j. refl) run i l h new _ p (rw f)

    pub said-done : n ≡ least most_statements s.count → n ≤ i → length s.kinds ≡ most_statements → length s.lefts ≡ most_statements → length s.rights ≡ most_statements
        → take (told most_statements s.count * 3) run ≡ said_laid s
    said-done e h a b c =
        let x : get_or s.kinds most_statements 0 ≡ 0 = get_or-eq_default s.kinds 0 (omega arith) in
        let y : get_or s.lefts most_statements 0 ≡ 0 = get_or-eq_default s.lefts 0 (omega arith) in
        let z : get_or s.rights most_statements 0 ≡ 0 = get_or-eq_default s.rights 0 (omega arith) in
        done (said_piece s) said_size most_statements n (λ j. refl) run i l s.count e h (rw (x, y, z))

-- ---- pattern rows and literals

module _ (k : ClauseColumns) (n : ℕ) where
  pub patterns-start : n ≤ most_patterns → Laying (pattern_piece k) pattern_size most_patterns n (replicate pattern_space 0) 0
  patterns-start h = start (pattern_piece k) pattern_size most_patterns n (replicate pattern_space 0) refl h

  pub literals-start : n ≤ most_literals → Laying (literal_piece k) literal_size most_literals n (replicate literal_space 0) 0
  literals-start h = start (literal_piece k) literal_size most_literals n (replicate literal_space 0) refl h

  module _ (run : List ℕ) (i : ℕ) (l : Laying (pattern_piece k) pattern_size most_patterns n run i) where
    pub patterns-room : i < n → i * 7 + 7 ≤ length run
    patterns-room h = room (pattern_piece k) pattern_size most_patterns n (λ j. refl) run i l h

    pub patterns-below : i < n → i < most_patterns
    patterns-below h = omega (arith, l.few)

    pub patterns-places : i < n → length k.args ≡ pattern_places → i * 4 + 4 ≤ length k.args
    patterns-places h e = omega (arith, l.few)

    pub patterns-next : i < n → (new places : List ℕ) → places ≡ places_at k.args i
        → new ≡ put pattern_size run i (get_or k.kinds i 0 ∷ get_or k.heads i 0 ∷ get_or k.counts i 0 ∷ places) → Laying (pattern_piece k) pattern_size most_patterns n new (i + 1)
    patterns-next h new places g p = next (pattern_piece k) pattern_size most_patterns n (λ j. refl) run i l h new _ p (rw g)

    pub patterns-done : n ≡ least most_patterns k.patterns → n ≤ i → length k.kinds ≡ most_patterns → length k.heads ≡ most_patterns → length k.counts ≡ most_patterns → length k.args ≡ pattern_places
        → take (told most_patterns k.patterns * 7) run ≡ patterns_laid k
    patterns-done e h a b c d =
        let x : get_or k.kinds most_patterns 0 ≡ 0 = get_or-eq_default k.kinds 0 (omega arith) in
        let y : get_or k.heads most_patterns 0 ≡ 0 = get_or-eq_default k.heads 0 (omega arith) in
        let z : get_or k.counts most_patterns 0 ≡ 0 = get_or-eq_default k.counts 0 (omega arith) in
        let f : get_or k.args pattern_places 0 ≡ 0 = get_or-eq_default k.args 0 (omega arith) in
        let m : get_or k.args (pattern_places + 1) 0 ≡ 0 = get_or-eq_default k.args 0 (omega arith) in
        let o : get_or k.args (pattern_places + 2) 0 ≡ 0 = get_or-eq_default k.args 0 (omega arith) in
        let q : get_or k.args (pattern_places + 3) 0 ≡ 0 = get_or-eq_default k.args 0 (omega arith) in
        done (pattern_piece k) pattern_size most_patterns n (λ j. refl) run i l k.patterns e h (rw (x, y, z, f, m, o, q))

  module _ (run : List ℕ) (i : ℕ) (l : Laying (literal_piece k) literal_size most_literals n run i) where
    pub literals_room : i < n → i * 3 + 3 ≤ length run
    literals_room h = room (literal_piece k) literal_size most_literals n (λ j. refl) run i l h

    pub literals-below : i < n → i < most_literals
    literals-below h = omega (arith, l.few)

    pub literals-next : i < n → (new : List ℕ) (c : ℕ) → c ≡ get_or k.signs i 0 → new ≡ put literal_size run i (c ∷ get_or k.lefts i 0 ∷ get_or k.rights i 0 ∷ [])
        → Laying (literal_piece k) literal_size most_literals n new (i + 1)
    literals-next h new c f p = next (literal_piece k) literal_size most_literals n (λ j. refl) run i l h new _ p (rw f)

    pub literals-done : n ≡ least most_literals k.literals → n ≤ i → length k.signs ≡ most_literals → length k.lefts ≡ most_literals → length k.rights ≡ most_literals
        → take (told most_literals k.literals * 3) run ≡ literals_laid k
    literals-done e h a b c =
        let x : get_or k.signs most_literals 0 ≡ 0 = get_or-eq_default k.signs 0 (omega arith) in
        let y : get_or k.lefts most_literals 0 ≡ 0 = get_or-eq_default k.lefts 0 (omega arith) in
        let z : get_or k.rights most_literals 0 ≡ 0 = get_or-eq_default k.rights 0 (omega arith) in
        done (literal_piece k) literal_size most_literals n (λ j. refl) run i l k.literals e h (rw (x, y, z))

pub pattern-cast : (run new places : List ℕ) (i kind head count a c : ℕ) → a ≡ kind → c ≡ count → new ≡ put pattern_size run i (a ∷ head ∷ c ∷ places)
    → new ≡ put pattern_size run i (kind ∷ head ∷ count ∷ places)
pattern-cast run new places i kind head count a c e f p = p ∙ rw (e, f)

-- ---- the parts are lent

module _ (a : ℕ) (l : List ℕ) where
  pub part-rows : a ≤ suc most_rows → length l ≡ row_space → a * 6 ≡ length (take (a * 6) l)
  part-rows h e = omega (arith, length-take (a * 6) l)

  pub part-said : a ≤ suc most_statements → length l ≡ said_space → a * 3 ≡ length (take (a * 3) l)
  part-said h e = omega (arith, length-take (a * 3) l)

  pub part-patterns : a ≤ suc most_patterns → length l ≡ pattern_space → a * 7 ≡ length (take (a * 7) l)
  part-patterns h e = omega (arith, length-take (a * 7) l)

  pub part-literals : a ≤ suc most_literals → length l ≡ literal_space → a * 3 ≡ length (take (a * 3) l)
  part-literals h e = omega (arith, length-take (a * 3) l)

front_of : (a b size : ℕ) (run laid : List ℕ) → a ≡ b → take (b * size) run ≡ laid → take (a * size) run ≡ laid
front_of a b size run laid e f = rw e f

module _ (t : Table) (s : Statements) (a b : ℕ) (rows said : List ℕ) (ea : a ≡ told most_rows t.count) (eb : b ≡ told most_statements s.count)
    (er : take (told most_rows t.count * 6) rows ≡ rows_laid t) (es : take (told most_statements s.count * 3) said ≡ said_laid s) where
  pub close-laid : (r : Classes) → Closes most_rows most_statements (take (a * 6) rows) (take (b * 3) said) r.answer r.table → ClosedTable t s r
  close-laid r h =
      record {
        closes = rw (front_of a (told most_rows t.count) 6 rows (rows_laid t) ea er, front_of b (told most_statements s.count) 3 said (said_laid s) eb es) at h;
      }

  pub find-laid : (k : ClauseColumns) (c d : ℕ) (patterns literals : List ℕ) → c ≡ told most_patterns k.patterns → d ≡ told most_literals k.literals
      → take (told most_patterns k.patterns * 7) patterns ≡ patterns_laid k → take (told most_literals k.literals * 3) literals ≡ literals_laid k
      → (r : Option Reply) → FindsRuns (take (a * 6) rows) (take (b * 3) said) (take (c * 7) patterns) (take (d * 3) literals) r → FindsTable t s k r
  find-laid k c d patterns literals ec ed ep el r h =
      record {
        finds =
            rw (
              front_of a (told most_rows t.count) 6 rows (rows_laid t) ea er,
              front_of b (told most_statements s.count) 3 said (said_laid s) eb es,
              front_of c (told most_patterns k.patterns) 7 patterns (patterns_laid k) ec ep,
              front_of d (told most_literals k.literals) 3 literals (literals_laid k) ed el,
            ) at
            h;
      }

pub ruleset mine = (
  rules,
  told-min,
  least-min,
  rows_long,
  rows_start,
  rows-room,
  rows_inside,
  rows_next,
  rows-done,
  said-start,
  said-room,
  said-below,
  said-next,
  said-done,
  patterns-start,
  patterns-room,
  patterns-below,
  patterns-places,
  patterns-next,
  pattern-cast,
  patterns-done,
  literals-start,
  literals_room,
  literals-below,
  literals-next,
  literals-done,
  part-rows,
  part-said,
  part-patterns,
  part-literals,
  close-laid,
  find-laid,
)
