-- A house rule over a context: pattern rows, literals, assignments, breaches and the first of them.
--     Pattern, Literal, Clause  a rule's negated literals over its pattern rows
--     variables, instances      the number of variables; the terms of the pattern rows under a choice
--     Differ, Holds             what an unequal literal, and what any literal asks of its instances
--     range_of                   what the variables range over
--     Breach, Before, Answers   an assignment that breaks the rule; the order; the first breach, or none
-- Assumes nothing.
use Rattle.std.specs.Prelude.{List, [], ◌∷◌, ◌++◌, map, ◌≡◌, ◌⊎◌, ℕ, suc, ◌<◌, max, length, get_or}
use Rattle.meaning.specs.Context.{Term, node, term₀, pick, terms, term_at, Context, differences, left_at, right_at}
use Rattle.meaning.specs.Equality.{EqualIn, EqualAdding}

-- a variable, or a symbol over earlier pattern rows
pub data Pattern : Type 0 where
  variable : ℕ → Pattern
  apply : ℕ → List ℕ → Pattern

pub data Literal : Type 0 where
  equal unequal : ℕ → ℕ → Literal

pub record Clause : Type 0 where
  pub patterns : List Pattern
  pub literals : List Literal

-- the highest variable number and one, or 0
unfoldable pub variables : List Pattern → ℕ
variables [] = 0
variables (variable v ∷ ps) = max (suc v) (variables ps)
variables (apply f l ∷ ps) = variables ps

-- the instance of a pattern row, by the variables' terms and the instances of the pattern rows before it
unfoldable pub instance : List Term → List Term → Pattern → Term
instance chosen done (variable v) = get_or chosen v term₀
instance chosen done (apply f l) = node f (pick done l)

unfoldable pub fill : List Term → List Term → List Pattern → List Term
fill chosen done [] = done
fill chosen done (p ∷ ps) = fill chosen (done ++ (instance chosen done p ∷ [])) ps

unfoldable pub instances : List Pattern → List Term → List Term
instances ps chosen = fill chosen [] ps

-- what an unequal literal asks of its two instances: adding their equation would make the two sides of some stated difference equal
abbrev pub Differ : Context → Term → Term → Type 0
Differ c t u =
    (k : ℕ)
    × (k < length (differences c))
    × EqualAdding c t u (term_at c.rows (left_at (differences c) k)) (term_at c.rows (right_at (differences c) k))

abbrev pub Holds : Context → List Term → Literal → Type 0
Holds c ts (equal p q) = EqualIn c (get_or ts p term₀) (get_or ts q term₀)
Holds c ts (unequal p q) = Differ c (get_or ts p term₀) (get_or ts q term₀)

abbrev pub AllHold : Context → List Term → List Literal → Type 0
AllHold c ts [] = Unit {0}
AllHold c ts (l ∷ ls) = Holds c ts l × AllHold c ts ls

-- the variables range over the context's rows, in row order
abbrev pub range_of : Context → List Term
range_of c = terms c.rows

-- the terms at an assignment's places of a range
abbrev pub choice : List Term → List ℕ → List Term
choice range a = map (λ i. get_or range i term₀) a

-- each number stands below n
abbrev pub Below : ℕ → List ℕ → Type 0
Below n [] = Unit {0}
Below n (a ∷ l) = (a < n) × Below n l

-- an assignment gives each variable a place of the range; it is a breach when every literal holds
pub record Breach (c : Context) (range : List Term) (k : Clause) (a : List ℕ) : Type 0 where
  pub long : length a ≡ variables k.patterns
  pub inside : Below (length range) a
  pub holds : AllHold c (instances k.patterns (choice range a)) k.literals

-- by variable 0's place, then variable 1's, and so on
abbrev pub Before : List ℕ → List ℕ → Type 0
Before [] m = ⊥
Before (a ∷ l) [] = ⊥
Before (a ∷ l) (b ∷ m) = (a < b) ⊎ ((a ≡ b) × Before l m)

pub data Found : Type 0 where
  found : List ℕ → Found
  nothing : Found

-- the first of the assignments that are so, or that none is
abbrev pub First : (List ℕ → Type 0) → Found → Type 0
First So (found a) = So a × ((b : List ℕ) → So b → Before b a → ⊥)
First So nothing = (b : List ℕ) → So b → ⊥

abbrev pub Answers : Context → Clause → Found → Type 0
Answers c k r = First (Breach c (range_of c) k) r
