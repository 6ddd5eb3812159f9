-- Steps that are easily got wrong, each with a small ledger whose breach it loses, while the right one keeps it.
--     Trial, tried                a ledger with a breach; whether steps leave the breach out
--     shown                       one statement over the list of trials
--     prunes-some                     and what the right steps leave out
-- Assumes nothing.
use mathlib.Core.Bool.{Bool, true, false, not, ◌&&◌, ◌||◌}
use mathlib.Core.List.{List, [], ◌∷◌}
use mathlib.Core.Path.{◌≡◌, refl}
use Prim.Native.Nat.{ℕ, zero, suc, ◌%◌}
use lib.Dec.{eqb, leb}
use lib.ListN.{length, get_or, replicate}
use Rattle.meaning.specs.Context.{Row}
use Rattle.meaning.specs.Rules.{Pattern, variable, apply, variables, Literal, equal, unequal, Clause}
use Rattle.meaning.specs.ByTable.{same_list, apart_by}
use Rattle.meaning.specs.Values.{pattern_at, numbers, number, stages, step, number_of, met, is_over, held, rows_at, levels, levels_from, level_of, highest}
use Rattle.meaning.specs.FirstBy.{breaks, all_hold_by, holds_by, lowest}
use Rattle.meaning.specs.Grounds.{literal_at}
use Rattle.bits.specs.Sets.{any_below, size}
use Rattle.matching.specs.Possible.{Possible, set_at, put, cut, sift, shut, shut_if, any_row, may}
use Rattle.matching.specs.Steps.{fits, fitting, reached, fixed, upward_by, upward, meet, pairwise, inside, equate, apart_right, apart_left, keep_apart, in_table, seen, cut_all, downward_by, downward, choosable_by, choosable, symbols_of, symbol_bit_by, symbol_bit, row_left, rising, falling, times, literal_step, rise, fall, round, among, start_rows, start, run, keeps}

-- a ledger by its table, a clause and a breach of it
pub record Trial : Type 0 where
  pub rows : List Row
  pub table : List ℕ
  pub differences : List (ℕ × ℕ)
  pub clause : Clause
  pub breach : List ℕ

abbrev rep : Trial → ℕ → ℕ
rep t i = get_or t.table i 0

abbrev bound : Trial → ℕ
bound t = length t.rows

abbrev differs : Trial → ℕ → ℕ → Bool
differs t = apart_by (rep t) t.differences

-- every row of an assignment is kept, from variable v on
unfoldable pub all_kept : Possible → ℕ → List ℕ → Bool
all_kept P v [] = true
all_kept P v (x ∷ a) = keeps P v x && all_kept P (suc v) a

-- it is a breach, and what the steps leave of all rows allows it or not
unfoldable pub tried : Trial → List (Possible → Possible) → Bool → Bool
unfolding apart_by same_list numbers number stages step number_of met is_over held rows_at levels levels_from level_of highest variables breaks all_hold_by holds_by lowest set_at put cut sift shut shut_if any_below size any_row may fits fitting reached fixed upward_by upward meet pairwise inside equate apart_right apart_left keep_apart in_table seen cut_all downward_by downward choosable_by choosable symbols_of symbol_bit_by symbol_bit row_left rising falling times literal_step rise fall round among start_rows start run keeps all_kept
tried t steps wanted =
    breaks (differs t) t.rows (rep t) (bound t) t.clause t.breach
    && eqv (all_kept (run steps (start [] (replicate (variables t.clause.patterns) (lowest (rep t) 0 (length t.rows))))) 0 t.breach) wanted
  where
    eqv : Bool → Bool → Bool
    eqv true b = b
    eqv false b = not b

abbrev row : ℕ → List ℕ → Row
row f l = record { symbol = f; args = l }

abbrev patterns : Trial → List Pattern
patterns t = t.clause.patterns

-- two rounds, by what is run for a row upward, for a literal, and for a row downward
abbrev twice : Trial → (ℕ → Possible → Possible) → (Literal → Possible → Possible) → (ℕ → Possible → Possible) → List (Possible → Possible)
twice t up by down =
    times 2
    (λ P. falling (λ p Q. row_left t.rows (rep t) (bound t) (patterns t) p (choosable t.rows (rep t) (bound t) (patterns t) p (down p Q))) (length (patterns t))
    (rising (λ j. by (literal_at t.clause.literals j)) (length t.clause.literals) (rising up (length (patterns t)) P)))
    ∷ []

abbrev up : Trial → ℕ → Possible → Possible
up t = upward t.rows (rep t) (bound t) (patterns t)

abbrev down : Trial → ℕ → Possible → Possible
down t = downward t.rows (rep t) (bound t) (patterns t)

abbrev bits : Trial → ℕ → ℕ → Bool
bits t = symbols_of t.rows (rep t) (bound t) (patterns t)

abbrev by : Trial → Literal → Possible → Possible
by t = literal_step t.rows (rep t) (bound t) t.clause (differs t) (bits t)

-- ---- wrong steps

-- the flag is cleared where some context row fits, though the arguments are open
unfoldable pub early : Trial → ℕ → Pattern → Possible → Possible
early t p (variable v) P = put p (P.candidates v) false P
early t p (apply f l) P = put p (reached t.rows (rep t) (bound t) (patterns t) P f l) (not (fitting t.rows (rep t) (bound t) (patterns t) P f l)) P

-- it is cleared where each argument has one class, though it may lie outside too
unfoldable pub one_class : ℕ → Possible → List ℕ → Bool
one_class n P [] = true
one_class n P (a ∷ l) = leb (size n (P.classes a)) 1 && one_class n P l

unfoldable pub loose : Trial → ℕ → Pattern → Possible → Possible
loose t p (variable v) P = put p (P.candidates v) false P
loose t p (apply f l) P =
    put p (reached t.rows (rep t) (bound t) (patterns t) P f l) (not (one_class (bound t) P l && fitting t.rows (rep t) (bound t) (patterns t) P f l)) P

-- downward though the row may lie outside
unfoldable pub blind : Trial → ℕ → Pattern → Possible → Possible
blind t p (variable v) P = P
blind t p (apply f l) P = cut_all (seen t.rows (rep t) (bound t) (patterns t) P p f l) 0 l P

-- no class in common is taken for no breach, though both may lie outside
unfoldable pub hasty : Trial → Literal → Possible → Possible
hasty t (equal p q) P = shut_if (not (any_below (bound t) (λ x. P.classes p x && P.classes q x))) (meet p q P)
hasty t (unequal p q) P = P

-- arguments are equated though the two may have a class in common
unfoldable pub deep : Trial → Literal → Possible → Possible
deep t (equal p q) P = elim (P.outside p && P.outside q) [ true ↦ inside meet (pattern_at (patterns t) p) (pattern_at (patterns t) q) (meet p q P) | false ↦ meet p q P ]
deep t (unequal p q) P = P

-- a difference is read one way round
unfoldable pub one_way : (ℕ → ℕ) → List (ℕ × ℕ) → ℕ → ℕ → Bool
one_way r [] n m = false
one_way r (d ∷ ds) n m = (eqb n (r d.0) && eqb m (r d.1)) || one_way r ds n m

-- a class has the bit of its own row alone
unfoldable pub own_bit : Trial → ℕ → ℕ → Bool
own_bit t x b = any_row (λ i r. eqb x i && eqb b (r.symbol % 64)) 0 t.rows

-- a bit is asked of a row that may lie outside, and the flag is cleared
unfoldable pub firm_bit : Trial → ℕ → Pattern → Possible → Possible
firm_bit t p (variable v) P = P
firm_bit t p (apply f l) P = cut p (λ x. bits t x (f % 64)) false P

-- one context row for each symbol over some classes: the last, not the first
unfoldable pub last : Trial → Possible → ℕ → List ℕ → ℕ → List Row → List ℕ → List ℕ
last t P f l i [] best = best
last t P f l i (r ∷ rs) best =
    elim (fits t.rows (rep t) (bound t) (patterns t) P f l r) [ true ↦ last t P f l (suc i) rs (rep t i ∷ []) | false ↦ last t P f l (suc i) rs best ]

unfoldable pub last_up : Trial → ℕ → Pattern → Possible → Possible
last_up t p (variable v) P = put p (P.candidates v) false P
last_up t p (apply f l) P = put p (among (last t P f l 0 t.rows [])) true P

-- only rows that are their own representatives count as classes
unfoldable pub own_up : Trial → ℕ → Possible → Possible
own_up t p P = cut p (λ x. eqb (rep t x) x) true (up t p P)

-- ---- ledgers

abbrev trial : List Row → List ℕ → List (ℕ × ℕ) → List Pattern → List Literal → List ℕ → Trial
trial rows table ds ps ls a = record { rows = rows; table = table; differences = ds; clause = record { patterns = ps; literals = ls }; breach = a }

abbrev x : Pattern
x = variable 0

abbrev y : Pattern
y = variable 1

-- a, b, f(a); x = b, beside f(x)
abbrev alone : Trial
alone = trial (row 0 [] ∷ row 1 [] ∷ row 2 (0 ∷ []) ∷ []) (0 ∷ 1 ∷ 2 ∷ []) [] (x ∷ apply 1 [] ∷ apply 2 (0 ∷ []) ∷ []) (equal 0 1 ∷ []) (1 ∷ [])

-- a, b, g(a), f(g(a)); x = b, beside f(g(x))
abbrev nested : Trial
nested =
    trial (row 0 [] ∷ row 1 [] ∷ row 3 (0 ∷ []) ∷ row 2 (2 ∷ []) ∷ []) (0 ∷ 1 ∷ 2 ∷ 3 ∷ []) [] (x ∷ apply 1 [] ∷ apply 3 (0 ∷ []) ∷ apply 2 (2 ∷ []) ∷ [])
    (equal 0 1 ∷ [])
    (1 ∷ [])

-- a, b, f(a); x = b, f(x) = f(y)
abbrev pair : Trial
pair =
    trial (row 0 [] ∷ row 1 [] ∷ row 2 (0 ∷ []) ∷ []) (0 ∷ 1 ∷ 2 ∷ []) [] (x ∷ y ∷ apply 1 [] ∷ apply 2 (0 ∷ []) ∷ apply 2 (1 ∷ []) ∷ []) (equal 0 2 ∷ equal 3 4 ∷ [])
    (1 ∷ 1 ∷ [])

-- a, b, f(a) = f(b); x = a, f(x) = f(y), y = b
abbrev joined : Trial
joined =
    trial (row 0 [] ∷ row 1 [] ∷ row 2 (0 ∷ []) ∷ row 2 (1 ∷ []) ∷ []) (0 ∷ 1 ∷ 2 ∷ 2 ∷ []) []
    (x ∷ y ∷ apply 0 [] ∷ apply 1 [] ∷ apply 2 (0 ∷ []) ∷ apply 2 (1 ∷ []) ∷ [])
    (equal 4 5 ∷ equal 0 2 ∷ equal 1 3 ∷ equal 4 5 ∷ [])
    (0 ∷ 1 ∷ [])

-- a and b differ; x is not y, x = b
abbrev apart : Trial
apart = trial (row 0 [] ∷ row 1 [] ∷ []) (0 ∷ 1 ∷ []) ((0, 1) ∷ []) (x ∷ y ∷ apply 1 [] ∷ []) (unequal 0 1 ∷ equal 0 2 ∷ []) (1 ∷ 0 ∷ [])

-- a = f(a); x = f(y)
abbrev looped : Trial
looped = trial (row 0 [] ∷ row 2 (0 ∷ []) ∷ []) (0 ∷ 0 ∷ []) [] (x ∷ y ∷ apply 2 (1 ∷ []) ∷ []) (equal 0 2 ∷ []) (0 ∷ 0 ∷ [])

-- not closed: f(a) stands twice; x = f(a)
abbrev double : Trial
double = trial (row 0 [] ∷ row 2 (0 ∷ []) ∷ row 2 (0 ∷ []) ∷ []) (0 ∷ 1 ∷ 2 ∷ []) [] (x ∷ apply 0 [] ∷ apply 2 (1 ∷ []) ∷ []) (equal 0 2 ∷ []) (1 ∷ [])

-- not closed: c has b's number, and b a's; c = c
abbrev chain : Trial
chain = trial (row 0 [] ∷ row 1 [] ∷ row 2 [] ∷ []) (0 ∷ 0 ∷ 1 ∷ []) [] (x ∷ apply 2 [] ∷ []) (equal 1 1 ∷ []) (0 ∷ [])

-- ---- what is shown

pub record Control : Type 0 where
  pub on : Trial
  pub wrong : List (Possible → Possible)

abbrev against : Trial → List (Possible → Possible) → Control
against t steps = record { on = t; wrong = steps }

abbrev right : Trial → List (Possible → Possible)
right t = times 3 (round t.rows (rep t) (bound t) t.clause (differs t) (bits t)) ∷ []

unfoldable pub controls : List Control
controls =
    against alone (twice alone (λ p P. early alone p (pattern_at (patterns alone) p) P) (by alone) (down alone))
    ∷ against nested (twice nested (λ p P. loose nested p (pattern_at (patterns nested) p) P) (by nested) (down nested))
    ∷ against alone (twice alone (up alone) (by alone) (λ p P. blind alone p (pattern_at (patterns alone) p) P))
    ∷ against pair (twice pair (up pair) (hasty pair) (down pair))
    ∷ against joined (twice joined (up joined) (deep joined) (down joined))
    ∷ against apart
    (twice apart (up apart) (literal_step apart.rows (rep apart) (bound apart) apart.clause (one_way (rep apart) apart.differences) (bits apart)) (down apart))
    ∷ against looped (twice looped (λ p P. symbol_bit looped.rows (rep looped) (bound looped) (patterns looped) (own_bit looped) p (up looped p P)) (by looped) (down looped))
    ∷ against alone (twice alone (λ p P. firm_bit alone p (pattern_at (patterns alone) p) (up alone p P)) (by alone) (down alone))
    ∷ against double (twice double (λ p P. last_up double p (pattern_at (patterns double) p) P) (by double) (down double))
    ∷ against chain (twice chain (own_up chain) (by chain) (down chain))
    ∷ []

-- the wrong steps lose the breach, and three rounds of the right ones keep it
unfoldable pub all_shown : List Control → Bool
all_shown [] = true
all_shown (c ∷ cs) = (tried c.on c.wrong false && tried c.on (right c.on) true) && all_shown cs

pub shown : all_shown controls ≡ true
unfolding all_shown controls tried early one_class loose blind hasty deep one_way own_bit firm_bit last last_up own_up
shown = refl

-- ---- what is left out

-- the rows below n that are kept for variable v
unfoldable pub left_for : Possible → ℕ → ℕ → List ℕ → List ℕ
left_for P v zero l = l
left_for P v (suc n) l = left_for P v n (elim (keeps P v n) [ true ↦ n ∷ l | false ↦ l ])

-- three rounds leave just these rows for each variable, from variable v on
unfoldable pub leaves : Trial → Possible → ℕ → List (List ℕ) → Bool
leaves t P v [] = true
leaves t P v (l ∷ ls) = same_list (left_for P v (bound t) []) l && leaves t P (suc v) ls

unfoldable pub leaves_all : List (Trial × List (List ℕ)) → Bool
unfolding apart_by same_list variables lowest set_at put cut sift shut shut_if any_below size any_row may fits fitting reached fixed upward_by upward meet pairwise inside equate apart_right apart_left keep_apart in_table seen cut_all downward_by downward choosable_by choosable symbols_of symbol_bit_by symbol_bit row_left rising falling times literal_step rise fall round among start_rows start run keeps left_for leaves
leaves_all [] = true
leaves_all (c ∷ cs) =
    leaves c.0 (run (right c.0) (start [] (replicate (variables (patterns c.0)) (lowest (rep c.0) 0 (length c.0.rows))))) 0 c.1 && leaves_all cs

-- a, b, f(a); f(x) = b: no class is common, and only f(x) may lie outside
abbrev never : Trial
never = trial (row 0 [] ∷ row 1 [] ∷ row 2 (0 ∷ []) ∷ []) (0 ∷ 1 ∷ 2 ∷ []) [] (x ∷ apply 1 [] ∷ apply 2 (0 ∷ []) ∷ []) (equal 1 2 ∷ []) []

pub prunes-some : leaves_all ((alone, (1 ∷ []) ∷ []) ∷ (pair, (1 ∷ []) ∷ (1 ∷ []) ∷ []) ∷ (apart, (1 ∷ []) ∷ (0 ∷ []) ∷ []) ∷ (double, (1 ∷ 2 ∷ []) ∷ []) ∷ (never, [] ∷ []) ∷ []) ≡ true
unfolding leaves_all
prunes-some = refl
