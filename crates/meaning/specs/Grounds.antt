-- Grounds for a breach: numbered steps, a conclusion for each literal, and what has to be answered to them.
--     Ref, Step, Conclusion       a term by its mark and row; an equality stated with its reason; how a literal is shown
--     Stands                      the term that a reference stands for under an assignment
--     PairAt, UnequalAt           stated pair n is of two terms; unequal literal n has two terms for instances
--     Cites                       step n of some steps has two terms for sides, and may be used by an owner
--     Follows                     a step follows from the steps before it
--     Concludes, conclusion_for    a conclusion shows a literal; the conclusion that counts for a literal
--     Verdict, Verified           what is answered: the first variable without a row, else the first bad step, else the first literal not shown
--     case_of, details_of           a verdict's number after 0B, and the bytes after that
-- Steps, literals and stated pairs are counted from 1, and variables from 0. Assumes nothing.
use Rattle.std.specs.Prelude.{true, false, List, [], ◌∷◌, ◌≡◌, ◌⊎◌, ℕ, suc, ◌<◌, ◌/◌, ◌%◌, eqb, length, get_or, take}
use Rattle.meaning.specs.Context.{Term, Terms, node, stop, more, Row, term₀, term_at, Context, equations, differences, left_at, right_at}
use Rattle.meaning.specs.Rules.{variables, instances, choice, range_of, Literal, equal, unequal, Clause}

-- mark 0 is a context row, and mark 1 the instance of a pattern row
pub record Ref : Type 0 where
  pub mark : ℕ
  pub row : ℕ

-- owner 0 is shared, and owner n is the unequal literal n; the numbers are four
pub record Step : Type 0 where
  pub owner : ℕ
  pub kind : ℕ
  pub left : Ref
  pub right : Ref
  pub numbers : List ℕ

-- how a literal is shown: by a step, and for an unequal literal a stated difference
pub record Conclusion : Type 0 where
  pub literal : ℕ
  pub first : ℕ
  pub difference : ℕ

-- past the last one
abbrev pub ref₀ : Ref
ref₀ = record { mark = 0; row = 0 }

abbrev pub step₀ : Step
step₀ = record { owner = 0; kind = 0; left = ref₀; right = ref₀; numbers = [] }

abbrev pub literal₀ : Literal
literal₀ = equal 0 0

abbrev pub step_at : List Step → ℕ → Step
step_at steps i = get_or steps i step₀

abbrev pub literal_at : List Literal → ℕ → Literal
literal_at ls i = get_or ls i literal₀

-- number i of a step, from 0
abbrev pub number_in : Step → ℕ → ℕ
number_in s i = get_or s.numbers i 0

-- pair n states the terms t and u
pub record PairAt (rows : List Row) (pairs : List (ℕ × ℕ)) (n : ℕ) (t u : Term) : Type 0 where
  pub place : ℕ
  pub counted : n ≡ suc place
  pub inside : place < length pairs
  pub left : t ≡ term_at rows (left_at pairs place)
  pub right : u ≡ term_at rows (right_at pairs place)

-- ---- the steps, under an assignment
abbrev pub instances_of : Context → Clause → List ℕ → List Term
instances_of c k a = instances k.patterns (choice (range_of c) a)

module _ (c : Context) (k : Clause) (a : List ℕ) where
  -- both marks, each for rows that are there
  pub data Stands (r : Ref) (t : Term) : Type 0 where
    for-row : r.mark ≡ 0 → r.row < length c.rows → t ≡ term_at c.rows r.row → Stands r t
    for-instance : r.mark ≡ 1 → r.row < length k.patterns → t ≡ get_or (instances_of c k a) r.row term₀ → Stands r t

  abbrev pub instance_at : ℕ → Term
  instance_at p = get_or (instances_of c k a) p term₀

  -- literal n is unequal, and its instances are t and u, in its order
  pub record UnequalAt (n : ℕ) (t u : Term) : Type 0 where
    pub place : ℕ
    pub counted : n ≡ suc place
    pub inside : place < length k.literals
    pub left_row : ℕ
    pub right_row : ℕ
    pub literal : literal_at k.literals place ≡ unequal left_row right_row
    pub left : t ≡ instance_at left_row
    pub right : u ≡ instance_at right_row

  -- step n is one of these, shared or of that owner, and its sides are t and u
  pub record Cites (steps : List Step) (owner n : ℕ) (t u : Term) : Type 0 where
    pub place : ℕ
    pub counted : n ≡ suc place
    pub inside : place < length steps
    pub usable : ((step_at steps place).owner ≡ 0) ⊎ ((step_at steps place).owner ≡ owner)
    pub left : Stands (step_at steps place).left t
    pub right : Stands (step_at steps place).right u

  -- the numbers cite a step for each two arguments, in order
  pub data CitesEach (steps : List Step) (owner : ℕ) : List ℕ → Terms → Terms → Type 0 where
    each-stop : {ns : List ℕ} → CitesEach steps owner ns stop stop
    each_more : {n : ℕ} {ns : List ℕ} {t u : Term} {ts us : Terms} → Cites steps owner n t u → CitesEach steps owner ns ts us
        → CitesEach steps owner (n ∷ ns) (more t ts) (more u us)

  -- the six kinds of step; the added equation is that of the owner
  pub data Derives (earlier : List Step) (s : Step) (t u : Term) : Type 0 where
    by-statement : s.kind ≡ 1 → PairAt c.rows (equations c) (number_in s 0) t u → Derives earlier s t u
    by-reflexivity : s.kind ≡ 2 → t ≡ u → Derives earlier s t u
    by-symmetry : s.kind ≡ 3 → Cites earlier s.owner (number_in s 0) u t → Derives earlier s t u
    by-transitivity : s.kind ≡ 4 → (m : Term) → Cites earlier s.owner (number_in s 0) t m → Cites earlier s.owner (number_in s 1) m u
        → Derives earlier s t u
    by-congruence : s.kind ≡ 5 → (f : ℕ) (ts us : Terms) → t ≡ node f ts → u ≡ node f us → CitesEach earlier s.owner s.numbers ts us
        → Derives earlier s t u
    by-addition : s.kind ≡ 6 → UnequalAt s.owner t u → Derives earlier s t u

  -- all literals share, or an unequal literal owns
  pub data Owner (n : ℕ) : Type 0 where
    shared : n ≡ 0 → Owner n
    owned : (t u : Term) → UnequalAt n t u → Owner n

  -- a step of some owner between two terms that are there
  pub record Follows (earlier : List Step) (s : Step) : Type 0 where
    pub owner : Owner s.owner
    pub left_term : Term
    pub right_term : Term
    pub left : Stands s.left left_term
    pub right : Stands s.right right_term
    pub derives : Derives earlier s left_term right_term

  -- ---- the conclusions

  -- a step, shared or of literal n, has the two sides of a stated difference, in its order
  pub record ShowsDiffer (steps : List Step) (n : ℕ) (d : Conclusion) : Type 0 where
    pub left : Term
    pub right : Term
    pub pair : PairAt c.rows (differences c) d.difference left right
    pub cites : Cites steps n d.first left right

  -- of literal n
  abbrev pub Concludes : List Step → ℕ → Conclusion → Literal → Type 0
  Concludes steps n d (equal p q) = Cites steps 0 d.first (instance_at p) (instance_at q)
  Concludes steps n d (unequal p q) = ShowsDiffer steps n d

-- cites no step
abbrev pub absent : ℕ → Conclusion
absent n = record { literal = n; first = 0; difference = 0 }

-- of two conclusions for one literal the first counts
unfoldable pub conclusion_for : ℕ → List Conclusion → Conclusion
conclusion_for n [] = absent n
conclusion_for n (d ∷ ds) = elim (eqb d.literal n) [ true ↦ d | false ↦ conclusion_for n ds ]

-- ---- what is answered

pub data Verdict : Type 0 where
  accepted : Verdict
  unassigned bad unconcluded : ℕ → Verdict

unfoldable pub case_of : Verdict → ℕ
case_of accepted = 0
case_of (unassigned v) = 1
case_of (bad n) = 2
case_of (unconcluded n) = 3

-- a variable or a literal is one byte, and a step four
unfoldable pub details_of : Verdict → List ℕ
details_of accepted = []
details_of (unassigned v) = v ∷ []
details_of (bad n) = n / 16777216 % 256 ∷ n / 65536 % 256 ∷ n / 256 % 256 ∷ n % 256 ∷ []
details_of (unconcluded n) = n ∷ []

abbrev pub Each : ℕ → (ℕ → Type 0) → Type 0
Each n So = (i : ℕ) → i < n → So i

-- i is the first below n that is not so
pub record FirstNot (n : ℕ) (So : ℕ → Type 0) (i : ℕ) : Type 0 where
  pub inside : i < n
  pub fails : So i → ⊥
  pub before : Each i So

module _ (c : Context) (k : Clause) (a : List ℕ) (steps : List Step) (ds : List Conclusion) where
  -- variable v has a context row
  abbrev pub Assigned : ℕ → Type 0
  Assigned v = (v < length a) × (get_or a v 0 < length c.rows)

  abbrev pub FollowsAt : ℕ → Type 0
  FollowsAt i = Follows c k a (take i steps) (step_at steps i)

  abbrev pub ConcludedAt : ℕ → Type 0
  ConcludedAt i = Concludes c k a steps (suc i) (conclusion_for (suc i) ds) (literal_at k.literals i)

  -- places past the number of variables are not read
  pub data Verified : Verdict → Type 0 where
    accepts : Each (variables k.patterns) Assigned → Each (length steps) FollowsAt → Each (length k.literals) ConcludedAt → Verified accepted
    unassigns : (v : ℕ) → FirstNot (variables k.patterns) Assigned v → Verified (unassigned v)
    refuses : Each (variables k.patterns) Assigned → (i : ℕ) → FirstNot (length steps) FollowsAt i → Verified (bad (suc i))
    leaves-open : Each (variables k.patterns) Assigned → Each (length steps) FollowsAt → (i : ℕ) → FirstNot (length k.literals) ConcludedAt i
        → Verified (unconcluded (suc i))
