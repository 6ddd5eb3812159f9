-- Differences that follow, tried at small texts.
--     Case, Tried           a text with two rows that differ, or that do not
--     cases, shown          what is easily got wrong: two levels deep, either way round, through a merge, and what only two equations together would do
--     shallow, no-shallow   a finder that follows differences one level only: demand 2 shuts it out
-- Assumes nothing.
use mathlib.Core.Bool.{Bool, true, false, not, ◌&&◌, ◌||◌}
use mathlib.Core.List.{List, [], ◌∷◌, map}
use mathlib.Core.Path.{◌≡◌, refl, sym, ◌∙◌}
use Prim.Native.Nat.{ℕ, ◌<◌}
use Prim.Native.String as S
use native.Mathlib.Omega.{arith}
use lib.Dec.{eqb, ltb}
use borrow.Author.Tests.{ltb-true, not-true}
use lib.ListN.{length}
use Rattle.meaning.specs.Context.{Row, row_at, term_at, Context, differences, equations_of, differences_of}
use Rattle.meaning.specs.Rules.{variables, Differ, found}
use Rattle.meaning.specs.Text.{Read, Reading, faulty, taken, rows_of, read, narrow, read_lines, lines_of, lines_from, digit, fields, is_listed, listed_as, size_of, entry_of, rank_of, put_context, put, put_clause, first_failing, is_nowhere, non_digit, legible, known, sized, ranked, room, named_by, table_of, no_row, refers, rows_agree, patterns_agree, agrees, tests_of, first_fault}
use Rattle.meaning.specs.Replies.{Reply, breach, none, refused, Replies}
use Rattle.meaning.specs.ByTable.{same_list, clash_of, clash_from}
use Rattle.meaning.specs.Values.{numbers, number, stages, step, number_of, met, is_over, held, rows_at, levels, levels_from, level_of, highest}
use Rattle.meaning.specs.Following.{follows_by, differ_by}
use Rattle.meaning.specs.FirstBy.{first_by, seek, try_all, or_else, lowest, breaks, all_hold_by, holds_by}
use Rattle.meaning.specs.Sheet.{bytes, further}
use Rattle.meaning.specs.Demands.{Finder, FindsFirst}
use Rattle.meaning.specs.Closing.{move, total, close, agree, rounds, round, rows_pass, row_pass, stated_pass, upto, unite, unite_if, count}
use Rattle.meaning.proofs.Logic.{and-true-left, and-true-right, false-true}
use Rattle.meaning.proofs.Taken.{read-formed}
use Rattle.meaning.proofs.FollowingNumbers.{differ_by-inside, differ_by-rows}
use Rattle.meaning.proofs.Computed.{rep_of, verdict}
use Rattle.meaning.proofs.Sheet.{further-shown}

pub data Case : Type 0 where
  differs stays : S.String → ℕ → ℕ → Case

-- what is said of the two rows in the context of a text that is read
abbrev pub Said : S.String → ℕ → ℕ → (Context → Type 0) → Type 0
Said text i j So =
    (s : Read) × (read narrow (bytes text) ≡ taken s) × (i < length (rows_of s)) × (j < length (rows_of s)) × So s.ledger.context

abbrev pub Tried : Case → Type 0
Tried (differs text i j) = Said text i j (λ c. Differ c (term_at c.rows i) (term_at c.rows j))
Tried (stays text i j) = Said text i j (λ c. Differ c (term_at c.rows i) (term_at c.rows j) → ⊥)

abbrev pub AllTried : List Case → Type 0
AllTried [] = Unit {0}
AllTried (e ∷ es) = Tried e × AllTried es

unfoldable pub cases : List Case
cases =
    -- g(f(a), h(b)) and g(f(b), h(a)) differ: a and b do, either way round
    differs "01000100\n01000200\n0101010100\n0101020101\n0101010101\n0101020100\n010201020203\n010201020405\n030607\n" 0 1
    ∷ differs "01000100\n01000200\n0101010100\n0101020101\n0101010101\n0101020100\n010201020203\n010201020405\n030607\n" 1 0
    -- and f(a) and f(b) do not: h(a) and h(b) would have to be one too
    ∷ stays "01000100\n01000200\n0101010100\n0101020101\n0101010101\n0101020100\n010201020203\n010201020405\n030607\n" 2 4
    -- f(f(a)) and f(f(b)) differ
    ∷ differs "01000100\n01000200\n0101010100\n0101010101\n0101010102\n0101010103\n030504\n" 0 1
    -- a and f(f(a)) differ: a and f(a) do
    ∷ differs "01000100\n0101010100\n0101010101\n030002\n" 0 1
    -- f(a) = c, f(b) = d, c and d differ
    ∷ differs "01000100\n01000200\n01000300\n01000400\n0101010100\n0101010101\n020402\n020503\n030203\n" 0 1
    -- g(a, b) and g(c, d) differ: neither a and c nor b and d do
    ∷ stays "01000100\n01000200\n01000300\n01000400\n010201020001\n010201020203\n030405\n" 0 2
    ∷ stays "01000100\n01000200\n01000300\n01000400\n010201020001\n010201020203\n030405\n" 1 3
    -- f(a) and b differ: a and b do not
    ∷ stays "01000100\n01000200\n0101010100\n030201\n" 0 1
    ∷ []

-- ---- by computing

unfoldable tests : ℕ → ℕ → Bool → Reading → Bool
tests i j b (faulty f) = false
tests i j true (taken s) = differ_by s.ledger.context i j
tests i j false (taken s) = (ltb i (length (rows_of s)) && ltb j (length (rows_of s))) && not (differ_by s.ledger.context i j)

unfoldable test : Case → Bool
test (differs text i j) = tests i j true (read narrow (bytes text))
test (stays text i j) = tests i j false (read narrow (bytes text))

unfoldable all : List Case → Bool
unfolding tests test bytes differ_by follows_by read read_lines lines_of lines_from digit fields is_listed listed_as size_of entry_of rank_of put_context put_clause put first_failing is_nowhere non_digit legible known sized ranked room named_by table_of no_row refers rows_agree patterns_agree agrees tests_of first_fault equations_of differences_of same_list close rounds round rows_pass row_pass stated_pass upto unite_if agree unite count move total
all [] = true
all (e ∷ es) = test e && all es

tried : (e : Case) → test e ≡ true → Tried e
unfolding test tests
tried (differs text i j) t = go (read narrow (bytes text)) refl t
  where
    go : (x : Reading) → read narrow (bytes text) ≡ x → tests i j true x ≡ true → Tried (differs text i j)
    go (faulty f) e u = false-true u refl
    go (taken s) e u =
        let c : Context = s.ledger.context in
        let w : (i < length c.rows) × (j < length c.rows) = differ_by-inside c i j u in
        (s, e, w.0, w.1, (differ_by-rows c (read-formed narrow (bytes text) s e).fit i j w.0 w.1).1 u)
tried (stays text i j) t = go (read narrow (bytes text)) refl t
  where
    go : (x : Reading) → read narrow (bytes text) ≡ x → tests i j false x ≡ true → Tried (stays text i j)
    go (faulty f) e u = false-true u refl
    go (taken s) e u =
        let c : Context = s.ledger.context in
        let a : Bool = ltb i (length c.rows) in
        let b : Bool = ltb j (length c.rows) in
        let h : (a && b) ≡ true = and-true-left (a && b) (not (differ_by c i j)) u in
        let l : i < length c.rows = ltb-true _ _ (and-true-left a b h) in
        let r : j < length c.rows = ltb-true _ _ (and-true-right a b h) in
        let n : differ_by c i j ≡ false = not-true (differ_by c i j) (and-true-right (a && b) (not (differ_by c i j)) u) in
        (s, e, l, r, λ d. false-true ((differ_by-rows c (read-formed narrow (bytes text) s e).fit i j l r).0 d) n)

all-tried : (es : List Case) → all es ≡ true → AllTried es
unfolding all
all-tried [] t = tt
all-tried (e ∷ es) t = (tried e (and-true-left (test e) (all es) t), all-tried es (and-true-right (test e) (all es) t))

pub shown : AllTried cases
unfolding cases all
shown = all-tried cases refl

-- ---- one level only: demand 2, on f(f(a)) and f(f(b)) that differ

-- two sides have one class, or are one symbol over the same classes
unfoldable pub level : List Row → (ℕ → ℕ) → ℕ × ℕ → Bool
level rows rep d =
    eqb (rep d.0) (rep d.1)
    || (eqb (row_at rows d.0).symbol (row_at rows d.1).symbol && same_list (map rep (row_at rows d.0).args) (map rep (row_at rows d.1).args))

unfoldable pub any_level : List Row → (ℕ → ℕ) → List (ℕ × ℕ) → Bool
any_level rows rep [] = false
any_level rows rep (d ∷ ds) = level rows rep d || any_level rows rep ds

-- the classes of n and m are made one, and nothing else
unfoldable pub shallow_by : Context → ℕ → ℕ → Bool
shallow_by c n m = any_level c.rows (λ i. move n m (rep_of c i)) (differences c)

unfoldable pub shallow_on : Reading → Reply
shallow_on (faulty f) = refused f
shallow_on (taken s) =
    let c : Context = s.ledger.context in
    verdict s.clause.literals (clash_of (rep_of c) (differences c)) (first_by (shallow_by c) c.rows (rep_of c) (length c.rows) s.clause)

unfoldable pub shallow : Finder
shallow text = shallow_on (read narrow text)

-- with the rule x unequal b
unfoldable two_levels : List ℕ
two_levels = bytes "01000100\n01000200\n0101010100\n0101010101\n0101010102\n0101010103\n030405\n0400\n05000200\n070001\n"

unfoldable one_level : List ℕ
one_level = bytes "01000100\n01000200\n0101010100\n0101010101\n030203\n0400\n05000200\n070001\n"

two-reply : Replies narrow two_levels (breach (0 ∷ []))
unfolding two_levels further
two-reply = further-shown.1.1.1.0

shallow-replies : (shallow one_level ≡ breach (0 ∷ [])) × (shallow two_levels ≡ none)
unfolding one_level two_levels shallow shallow_on shallow_by any_level level bytes read read_lines lines_of lines_from digit fields is_listed listed_as size_of entry_of rank_of put_context put_clause put first_failing is_nowhere non_digit legible known sized ranked room named_by table_of no_row refers rows_agree patterns_agree agrees tests_of first_fault verdict clash_of clash_from first_by seek try_all or_else lowest breaks all_hold_by holds_by numbers stages number step number_of met is_over held rows_at levels levels_from level_of highest variables equations_of differences_of same_list close rounds round rows_pass row_pass stated_pass upto unite_if agree unite count move total
shallow-replies = (refl, refl)

pub no-shallow : FindsFirst shallow → ⊥
no-shallow d =
    let e : none ≡ breach (0 ∷ []) = sym shallow-replies.1 ∙ (d two_levels (found (0 ∷ []))).1 two-reply in
    let z : ◌≡◌ {A = ℕ} 0 1 = cc in
    omega arith
