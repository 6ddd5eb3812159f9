-- Grounds judged by numbers: one number for each term, made once, so that no term is written out.
--     entries              the context's rows, and then a row for each pattern row under an assignment
--     key_of, alike         an entry's symbol over its arguments' numbers; two entries that have one
--     numbers_of            an entry's number is that of the first earlier entry that is like it, else its own place
--     Faithful             numbers that tell terms apart
--     side_of               the number of what a reference stands for
--     owner_by              whether an owner is shared or an unequal literal
--     cited_by, follows_by   whether a step that an owner may use has two numbers for sides; whether a step follows from those before it
--     concludes_by          whether a conclusion shows a literal
--     Ends                 where a test first fails
--     verdict_by            the verdict on steps and conclusions
-- Assumes nothing.
use Rattle.std.specs.Prelude.{Bool, true, false, ◌&&◌, ◌||◌, List, [], ◌∷◌, ◌++◌, map, ◌≡◌, ℕ, zero, suc, ◌+◌, ◌-◌, ◌≤◌, ◌<◌, eqb, ltb, leb, length, get_or}
use Rattle.meaning.specs.Context.{Row, row_at, term_at, Context, equations, differences, left_at, right_at}
use Rattle.meaning.specs.Rules.{Pattern, variable, apply, variables, Literal, equal, unequal, Clause}
use Rattle.meaning.specs.ByTable.{same_list}
use Rattle.meaning.specs.Values.{number_at, args_of}
use Rattle.meaning.specs.Grounds.{Ref, Step, Conclusion, step_at, literal_at, conclusion_for, Verdict, accepted, unassigned, bad, unconcluded}

-- ---- entries and their numbers

-- a variable's row is that of the context row chosen for it
unfoldable pub entry_of : List Row → List ℕ → Pattern → Row
entry_of rows a (variable v) = row_at rows (get_or a v 0)
entry_of rows a (apply f l) = record { symbol = f; args = map (λ p. length rows + p) l }

unfoldable pub entries : List Row → List ℕ → List Pattern → List Row
entries rows a ps = rows ++ map (entry_of rows a) ps

unfoldable pub key_of : List ℕ → Row → Row
key_of ns r = record { symbol = r.symbol; args = args_of ns r.args }

unfoldable pub keys_of : List ℕ → List Row → List Row
keys_of ns es = map (key_of ns) es

unfoldable pub same_key : Row → Row → Bool
same_key r q = eqb r.symbol q.symbol && same_list r.args q.args

unfoldable pub alike : List Row → List ℕ → ℕ → ℕ → Bool
alike es ns i j = same_key (key_of ns (row_at es i)) (key_of ns (row_at es j))

-- the number of the first of n entries from j on that is like entry i; else i
unfoldable pub number_like : List Row → List ℕ → ℕ → ℕ → ℕ → ℕ
number_like es ns i j zero = i
number_like es ns i j (suc n) = elim (alike es ns i j) [ true ↦ number_at ns j | false ↦ number_like es ns i (suc j) n ]

-- the numbers of the first i entries
unfoldable pub numbers_to : List Row → ℕ → List ℕ
numbers_to es zero = []
numbers_to es (suc i) = let ns : List ℕ = numbers_to es i in ns ++ (number_like es ns i 0 i ∷ [])

unfoldable pub numbers_of : List Row → List ℕ
numbers_of es = numbers_to es (length es)

-- two of the first n entries have one number exactly when they stand for one term; a number is that of an entry no later, which has itself for its number
pub record Faithful (es : List Row) (ns : List ℕ) (n : ℕ) : Type 0 where
  pub low : (i : ℕ) → i < n → number_at ns i ≤ i
  pub settled : (i : ℕ) → i < n → number_at ns (number_at ns i) ≡ number_at ns i
  pub sound : (i j : ℕ) → i < n → j < n → number_at ns i ≡ number_at ns j → term_at es i ≡ term_at es j
  pub complete : (i j : ℕ) → i < n → j < n → term_at es i ≡ term_at es j → number_at ns i ≡ number_at ns j

-- the numbers of stated pairs
unfoldable pub numbered : List ℕ → List (ℕ × ℕ) → List (ℕ × ℕ)
numbered ns pairs = map (λ p. (number_at ns p.0, number_at ns p.1)) pairs

-- ---- steps

-- x is one of the first, counted from 1
unfoldable pub counts : ℕ → ℕ → Bool
counts limit x = ltb 0 x && leb x limit

-- pair x, counted from 1, is of l and r
unfoldable pub paired_by : List (ℕ × ℕ) → ℕ → ℕ → ℕ → Bool
paired_by pairs x l r = counts (length pairs) x && (eqb (left_at pairs (x - 1)) l && eqb (right_at pairs (x - 1)) r)

unfoldable pub is_unequal : Literal → Bool
is_unequal (equal p q) = false
is_unequal (unequal p q) = true

-- o is 0, or the number of an unequal literal, counted from 1
unfoldable pub owner_by : List Literal → ℕ → Bool
owner_by ls o = eqb o 0 || (counts (length ls) o && is_unequal (literal_at ls (o - 1)))

-- a row below a limit; past it a number that is no entry's
unfoldable pub number_below : List ℕ → ℕ → ℕ → ℕ → ℕ → ℕ
number_below ns none limit offset row = elim (ltb row limit) [ true ↦ number_at ns (offset + row) | false ↦ none ]

-- by the entries' numbers, and how many entries are context rows and pattern rows
module _ (ns : List ℕ) (n m : ℕ) where
  -- the number of entries where there is nothing
  unfoldable pub side_of : Ref → ℕ
  side_of r =
      elim (eqb r.mark 0) [
        | true ↦ number_below ns (n + m) n 0 r.row
        | false ↦ elim (eqb r.mark 1) [ true ↦ number_below ns (n + m) m n r.row | false ↦ n + m ]
      ]

  -- the sides are l and r
  unfoldable pub sides_by : Ref → Ref → ℕ → ℕ → Bool
  sides_by left right l r = eqb (side_of left) l && eqb (side_of right) r

  -- a step that owner o may use has the sides l and r
  unfoldable pub used_by : ℕ → Step → ℕ → ℕ → Bool
  used_by o s l r = (eqb s.owner 0 || eqb s.owner o) && sides_by s.left s.right l r

  unfoldable pub cited_by : List Step → ℕ → ℕ → ℕ → ℕ → ℕ → Bool
  cited_by steps limit o x l r = counts limit x && used_by o (step_at steps (x - 1)) l r

  -- two steps that meet in a term that is there
  unfoldable pub met_by : List Step → ℕ → ℕ → ℕ → ℕ → ℕ → ℕ → Bool
  met_by steps limit o x y l r =
      let middle : ℕ = side_of (step_at steps (x - 1)).right in
      cited_by steps limit o x l middle && (ltb middle (n + m) && cited_by steps limit o y middle r)

  -- a step for each two arguments, by the numbers from place i on
  unfoldable pub each_by : List Step → ℕ → ℕ → List ℕ → ℕ → List ℕ → List ℕ → Bool
  each_by steps limit o xs i [] [] = true
  each_by steps limit o xs i [] (r ∷ rs) = false
  each_by steps limit o xs i (l ∷ ls) [] = false
  each_by steps limit o xs i (l ∷ ls) (r ∷ rs) = cited_by steps limit o (get_or xs i 0) l r && each_by steps limit o xs (suc i) ls rs

  -- two keys with one symbol, and a step for each two arguments
  unfoldable pub congruent_by : List Step → ℕ → ℕ → List ℕ → Row → Row → Bool
  congruent_by steps limit o xs p q = eqb p.symbol q.symbol && each_by steps limit o xs 0 p.args q.args

  -- an unequal literal's instances are l and r
  unfoldable pub adds_by : Literal → ℕ → ℕ → Bool
  adds_by (equal p q) l r = false
  adds_by (unequal p q) l r = eqb (number_at ns (n + p)) l && eqb (number_at ns (n + q)) r

  -- literal o, counted from 1, is unequal, and its instances are l and r
  unfoldable pub added_by : List Literal → ℕ → ℕ → ℕ → Bool
  added_by ls o l r = counts (length ls) o && adds_by (literal_at ls (o - 1)) l r

  -- by the keys of all entries, the numbers of the stated equations, and the literals
  module _ (ks : List Row) (eqs : List (ℕ × ℕ)) (ls : List Literal) where
    unfoldable pub derives_by : List Step → ℕ → ℕ → ℕ → List ℕ → ℕ → ℕ → Bool
    derives_by steps limit o kind xs l r =
        elim (eqb kind 1) [
          | true ↦ paired_by eqs (get_or xs 0 0) l r
          | false ↦ elim (eqb kind 2) [
            | true ↦ eqb l r
            | false ↦ elim (eqb kind 3) [
              | true ↦ cited_by steps limit o (get_or xs 0 0) r l
              | false ↦ elim (eqb kind 4) [
                | true ↦ met_by steps limit o (get_or xs 0 0) (get_or xs 1 0) l r
                | false ↦ elim (eqb kind 5) [
                  | true ↦ congruent_by steps limit o xs (row_at ks l) (row_at ks r)
                  | false ↦ elim (eqb kind 6) [ true ↦ added_by ls o l r | false ↦ false ]
                ]
              ]
            ]
          ]
        ]

    unfoldable pub follows_by : List Step → ℕ → Bool
    follows_by steps i =
        let s : Step = step_at steps i in
        let l : ℕ = side_of s.left in
        let r : ℕ = side_of s.right in
        owner_by ls s.owner && ((ltb l (n + m) && ltb r (n + m)) && derives_by steps i s.owner s.kind s.numbers l r)

  -- ---- conclusions, by the numbers of the stated differences

  -- a step that literal o may use has the sides of a stated difference
  unfoldable pub differs_by_steps : List (ℕ × ℕ) → List Step → ℕ → Conclusion → Bool
  differs_by_steps diffs steps o d =
      counts (length diffs) d.difference
      && cited_by steps (length steps) o d.first (left_at diffs (d.difference - 1)) (right_at diffs (d.difference - 1))

  -- of literal o
  unfoldable pub concludes_by : List (ℕ × ℕ) → List Step → ℕ → Conclusion → Literal → Bool
  concludes_by diffs steps o d (equal p q) = cited_by steps (length steps) 0 d.first (number_at ns (n + p)) (number_at ns (n + q))
  concludes_by diffs steps o d (unequal p q) = differs_by_steps diffs steps o d

  -- literal j + 1 is shown
  unfoldable pub concluded_by : List (ℕ × ℕ) → List Literal → List Step → List Conclusion → ℕ → Bool
  concluded_by diffs ls steps ds j = concludes_by diffs steps (suc j) (conclusion_for (suc j) ds) (literal_at ls j)

-- ---- the verdict

-- the first of n places from i on where a test fails; else the place after them
unfoldable pub first_false : (ℕ → Bool) → ℕ → ℕ → ℕ
first_false test i zero = i
first_false test i (suc n) = elim (test i) [ true ↦ first_false test (suc i) n | false ↦ i ]

-- i is the first place below n where a test fails, or n where it holds at all of them
pub record Ends (test : ℕ → Bool) (n i : ℕ) : Type 0 where
  pub most : i ≤ n
  pub before : (j : ℕ) → j < i → test j ≡ true
  pub fails : i < n → test i ≡ false

unfoldable pub assigned_by : ℕ → List ℕ → ℕ → Bool
assigned_by rows a v = ltb v (length a) && ltb (get_or a v 0) rows

-- v where i is below n, and else w
unfoldable pub choose : ℕ → ℕ → Verdict → Verdict → Verdict
choose i n v w = elim (ltb i n) [ true ↦ v | false ↦ w ]

unfoldable pub verdict_by : Context → Clause → List ℕ → List Step → List Conclusion → Verdict
verdict_by c k a steps ds =
    let n : ℕ = length c.rows in
    let m : ℕ = length k.patterns in
    let es : List Row = entries c.rows a k.patterns in
    let ns : List ℕ = numbers_of es in
    let vs : ℕ = variables k.patterns in
    let v : ℕ = first_false (assigned_by n a) 0 vs in
    let i : ℕ = first_false (follows_by ns n m (keys_of ns es) (numbered ns (equations c)) k.literals steps) 0 (length steps) in
    let j : ℕ = first_false (concluded_by ns n m (numbered ns (differences c)) k.literals steps ds) 0 (length k.literals) in
    choose v vs (unassigned v) (choose i (length steps) (bad (suc i)) (choose j (length k.literals) (unconcluded (suc j)) accepted))
