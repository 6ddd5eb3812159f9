-- Steps that keep what they must, run before each choice, give a pruning that keeps every member: the search replies as the plain one does.
--     step-sound, run_sound          a step, and a list of them, leave what is sound sound
--     keeping_at                     a step that keeps every member keeps those that begin with a choice
--     sound-wider                    sets that hold more are sound
--     idle-keeping, then-keeping, test-keeping, times-keeping    steps put together
--     settled-keeping                a row whose variables are all chosen has its number
--     start-sound                    all that a choice and a box leave open is sound
--     shut_none, shut-tries          where the branch is shut no member is left, and none is tried
--     sound-keeps-all                any sound way to say what is possible is a pruning that keeps every member
--     guarded-keeps-all              a pruning that is left out where a test fails
--     matched-first, matched-due     so the pruned search gives exactly what the plain search gives
--     matched-from                   and from any assignment on the first member there
-- Assumes nothing.
use mathlib.Core.Bool.{Bool, true, false}
use mathlib.Core.List.{List, [], ◌∷◌, ◌++◌}
use mathlib.Core.Path.{◌≡◌, refl, ap, ◌∙◌, subst}
use mathlib.Core.Logic.{◌⊎◌, inl, inr}
use Prim.Native.Nat.{ℕ, zero, suc, ◌+◌, ◌-◌, ◌≤◌, ◌<◌}
use native.Mathlib.Omega.{arith}
use lib.Dec.{eqb, ltb, leb}
use borrow.Author.Tests.{eqb-false, eq-eqb, le-leb, ltb-true, ltb-false}
use lib.ListN.{length, get_or, length-append, get_or-append}
use lib.Seq.{get_or-append-add}
use Rattle.meaning.specs.Context.{Row}
use Rattle.meaning.specs.Rules.{Pattern, variable, apply, variables, Clause, Found, nothing, First}
use Rattle.meaning.specs.Formed.{AllPlaced}
use Rattle.meaning.specs.Values.{pattern_at, number_at, Numbering, stages, numbers}
use Rattle.meaning.specs.FirstBy.{try_all, first_by}
use Rattle.meaning.proofs.Logic.{and_both, false-true}
use Rattle.meaning.proofs.Box.{Box, Mem, Inside, OfRows}
use Rattle.meaning.proofs.Search.{search, try_box}
use Rattle.meaning.proofs.Prunings.{KeepsAll, keeps-all-covers, sift, sift_box, Kept, sift-keeps-all}
use Rattle.meaning.proofs.From.{AtOrAfter}
use Rattle.meaning.proofs.Seek.{starts}
use Rattle.meaning.proofs.Prefix.{stages-prefix, stages-later}
use Rattle.meaning.proofs.Levels.{level_at}
use Rattle.meaning.proofs.Pruned.{Sought, dead, start_box, pruned-first, search_from, first-from-all}
use Rattle.meaning.proofs.Due.{dead_now, due-first}
use Rattle.matching.specs.Possible.{Possible}
use Rattle.matching.specs.Steps.{among, start_rows, start, run, keeps, times, settled, possible_by, pruned_by, guarded}
use Rattle.matching.specs.Sound.{In, Table, AllowsBy, Sound, Keeping, KeepingAt}
use Rattle.matching.proofs.Numbers.{Held, Free}
use Rattle.matching.proofs.Allows.{allows-cut, allows-wider}
use Rattle.matching.proofs.Numbered.{Numbered, numbered-sought, held_low}

-- ---- the box

among-has : (x : ℕ) (l : List ℕ) → Mem x l → among l x ≡ true
unfolding among
among-has x [] m = absurd m
among-has x (y ∷ l) m = go (eqb x y) refl m (among-has x l)
  where
    go : (b : Bool) → eqb x y ≡ b → (x ≡ y) ⊎ Mem x l → (Mem x l → among l x ≡ true) → among (y ∷ l) x ≡ true
    go true e w f = rw (e, among) refl
    go false e (inl q) f = absurd (eqb-false x y e q)
    go false e (inr q) f = rw (e, among) (f q)

inside-at : (box : Box) (a : List ℕ) (i : ℕ) → Inside box a → i < length a → Mem (number_at a i) (get_or box i [])
inside-at [] [] i w h = absurd (omega arith)
inside-at [] (x ∷ a) i w h = absurd w
inside-at (l ∷ box) [] i w h = absurd w
inside-at (l ∷ box) (x ∷ a) zero w h = w.0
inside-at (l ∷ box) (x ∷ a) (suc i) w h = inside-at box a i w.1 (omega arith)

start-rows : (chosen : List ℕ) (box : Box) (rest : List ℕ) → Inside box rest → (v : ℕ) → v < length (chosen ++ rest)
    → start_rows chosen box v (number_at (chosen ++ rest) v) ≡ true
unfolding start_rows
start-rows chosen box rest w v h = go (ltb v (length chosen)) refl
  where
    go : (b : Bool) → ltb v (length chosen) ≡ b → start_rows chosen box v (number_at (chosen ++ rest) v) ≡ true
    go true e =
        rw (e, start_rows)
        (eq-eqb (number_at (chosen ++ rest) v) (number_at chosen v) (get_or-append chosen rest 0 v (ltb-true v (length chosen) e)))
    go false e =
        let m : length chosen ≤ v = omega (arith, ltb-false v (length chosen) e) in
        let z : v ≡ length chosen + (v - length chosen) = omega arith in
        let n : number_at (chosen ++ rest) v ≡ number_at rest (v - length chosen) =
        ap (λ (i : ℕ). number_at (chosen ++ rest) i) z ∙ get_or-append-add chosen rest (v - length chosen) 0 in
        rw (e, start_rows, n)
        (among-has (number_at rest (v - length chosen)) (get_or box (v - length chosen) []) (inside-at box rest (v - length chosen) w (omega (arith, length-append chosen rest))))

kept_at : (keep : ℕ → ℕ → Bool) (v : ℕ) (rest : List ℕ) → ((i : ℕ) → i < length rest → keep (v + i) (number_at rest i) ≡ true) → Kept keep v rest
kept_at keep v [] f = tt
kept_at keep v (x ∷ rest) f = (
  let z : v + 0 ≡ v = omega arith in subst (λ (n : ℕ). keep n x ≡ true) z (f 0 (omega arith)),
  kept_at keep (suc v) rest (λ i h. let z : v + suc i ≡ suc v + i = omega arith in subst (λ (n : ℕ). keep n (number_at rest i) ≡ true) z (f (suc i) (omega arith))),
)

sift-none : (keep : ℕ → Bool) (l : List ℕ) → ((x : ℕ) → keep x ≡ false) → sift keep l ≡ []
unfolding sift
sift-none keep [] f = refl
sift-none keep (x ∷ l) f = rw (f x, sift) (sift-none keep l f)

shut-keeps : (P : Possible) (v x : ℕ) → P.alive ≡ false → keeps P v x ≡ false
unfolding keeps
shut-keeps P v x e = rw e refl

try-none : (next : List ℕ → Box → Found) (chosen : List ℕ) (keep : ℕ → ℕ → Bool) → ((v x : ℕ) → keep v x ≡ false) → (box : Box)
    → try_box next chosen (sift_box keep (length chosen) box) ≡ nothing
unfolding try_box sift_box try_all
try-none next chosen keep f [] = refl
try-none next chosen keep f (l ∷ box) = rw (sift-none (keep (length chosen)) l (f (length chosen))) refl

pub guarded-keeps-all : (So : List ℕ → Type 0) (rows : List ℕ) (test : Bool) (prune : List ℕ → Box → Box) → (test ≡ true → KeepsAll So rows prune)
    → KeepsAll So rows (guarded test prune)
unfolding guarded
guarded-keeps-all So rows true prune f = record { keeps = (f refl).keeps; good = (f refl).good; long = (f refl).long }
guarded-keeps-all So rows false prune f = record { keeps = λ chosen box w a. (λ o. o, λ o. o); good = λ chosen box g. g; long = λ chosen box. refl }

module _ (differs : ℕ → ℕ → Bool) (rows : List Row) (rep : ℕ → ℕ) (bound offset : ℕ) (k : Clause) where
  abbrev ps : List Pattern
  ps = k.patterns

  abbrev So : List ℕ → Type 0
  So = Sought differs rows rep offset k

  abbrev SoundBy : List ℕ → Box → Possible → Type 0
  SoundBy = Sound differs rows rep bound offset k

  abbrev KeepingBy : (Possible → Possible) → Type 0
  KeepingBy = Keeping differs rows rep bound offset k

  -- ---- steps

  abbrev KeepingFrom : List ℕ → (Possible → Possible) → Type 0
  KeepingFrom = KeepingAt differs rows rep bound offset k

  pub step-sound : (chosen : List ℕ) (step : Possible → Possible) → KeepingFrom chosen step → (box : Box) (P : Possible) → SoundBy chosen box P → SoundBy chosen box (step P)
  step-sound chosen step s box P w = record { allows = λ rest i m. s.keeping rest m P (w.allows rest i m) }

  pub keeping_at : (step : Possible → Possible) → KeepingBy step → (chosen : List ℕ) → KeepingFrom chosen step
  keeping_at step s chosen = record { keeping = λ rest m P w. s.keeping (chosen ++ rest) m P w }

  pub idle-keeping : KeepingBy (λ P. P)
  idle-keeping = record { keeping = λ a m P w. w }

  pub then-keeping : (one two : Possible → Possible) → KeepingBy one → KeepingBy two → KeepingBy (λ P. two (one P))
  then-keeping one two s t = record { keeping = λ a m P w. t.keeping a m (one P) (s.keeping a m P w) }

  -- a step that is chosen by what is possible so far
  pub test-keeping : (test : Possible → Bool) (one two : Possible → Possible) → KeepingBy one → KeepingBy two → KeepingBy (λ P. elim (test P) [ true ↦ one P | false ↦ two P ])
  test-keeping test one two s t = record { keeping = λ a m P w. go a m P w (test P) }
    where
      go : (a : List ℕ) → So a → (P : Possible) → AllowsBy differs rows rep bound offset k P a → (b : Bool)
          → AllowsBy differs rows rep bound offset k (elim b [ true ↦ one P | false ↦ two P ]) a
      go a m P w true = s.keeping a m P w
      go a m P w false = t.keeping a m P w

  pub times-keeping : (n : ℕ) (step : Possible → Possible) → KeepingBy step → KeepingBy (times n step)
  unfolding times
  times-keeping zero step s = record { keeping = λ a m P w. w }
  times-keeping (suc n) step s = record { keeping = λ a m P w. (times-keeping n step s).keeping a m (step P) (s.keeping a m P w) }

  abbrev pub AllKeeping : List ℕ → List (Possible → Possible) → Type 0
  AllKeeping chosen [] = Unit {0}
  AllKeeping chosen (step ∷ steps) = KeepingFrom chosen step × AllKeeping chosen steps

  pub run_sound : (chosen : List ℕ) (steps : List (Possible → Possible)) → AllKeeping chosen steps → (box : Box) (P : Possible) → SoundBy chosen box P
      → SoundBy chosen box (run steps P)
  unfolding run
  run_sound chosen [] s box P w = w
  run_sound chosen (step ∷ steps) s box P w = run_sound chosen steps s.1 box (step P) (step-sound chosen step s.0 box P w)

  -- ---- a row whose variables are all chosen

  number-settled : (chosen rest : List ℕ) → So (chosen ++ rest) → (p : ℕ) → level_at ps p ≤ length chosen
      → number_at (numbers rows rep offset ps (chosen ++ rest)) p ≡ number_at (stages rows rep offset ps chosen (length chosen)).numbers p
  unfolding numbers
  number-settled chosen rest m p h =
      stages-later rows rep offset ps (chosen ++ rest) (length chosen) (variables ps) p (omega (arith, m.0, length-append chosen rest)) h
      ∙ ap (λ (s : Numbering). number_at s.numbers p)
      (stages-prefix rows rep offset ps (chosen ++ rest) chosen (length chosen) (get_or-append chosen rest 0))

  pub settled-keeping : bound ≤ offset → (chosen : List ℕ) (p : ℕ) → p < length k.patterns → level_at k.patterns p ≤ length chosen
      → KeepingFrom chosen (settled offset p (number_at (stages rows rep offset k.patterns chosen (length chosen)).numbers p))
  unfolding settled
  settled-keeping low chosen p h l = record { keeping = keeps' }
    where
      n : ℕ
      n = number_at (stages rows rep offset ps chosen (length chosen)).numbers p

      keeps' : (rest : List ℕ) → So (chosen ++ rest) → (P : Possible) → AllowsBy differs rows rep bound offset k P (chosen ++ rest)
          → AllowsBy differs rows rep bound offset k (settled offset p n P) (chosen ++ rest)
      keeps' rest m P w =
          allows-cut bound offset (length ps) (chosen ++ rest) ns low p (λ x. eqb x n) (leb offset n) P (λ _. here (w.rows p h)) w
        where
          ns : List ℕ
          ns = numbers rows rep offset ps (chosen ++ rest)

          e : number_at ns p ≡ n
          e = number-settled chosen rest m p l

          here : In bound offset (P.classes p) (P.outside p) (number_at ns p) → In bound offset (λ x. eqb x n) (leb offset n) (number_at ns p)
          here (inl u) = inl (u.0, eq-eqb (number_at ns p) n e)
          here (inr u) = inr (u.0, le-leb offset n (omega (arith, u.0, e)))

  -- ---- what is open at first

  module _ (table : Table rows rep bound offset) (placed : AllPlaced 0 k.patterns) where
    pub told : (a : List ℕ) → So a → Numbered rows rep bound offset ps a (numbers rows rep offset ps a)
    told a m = numbered-sought rows rep bound offset ps table placed a m.0 m.1

    -- code may hold more than a step leaves
    pub sound-wider : (chosen : List ℕ) (box : Box) (P Q : Possible) → (P.alive ≡ true → Q.alive ≡ true)
        → ((p x : ℕ) → p < length k.patterns → x < bound → P.classes p x ≡ true → Q.classes p x ≡ true)
        → ((p : ℕ) → p < length k.patterns → P.outside p ≡ true → Q.outside p ≡ true)
        → ((v x : ℕ) → v < variables k.patterns → x < bound → P.candidates v x ≡ true → Q.candidates v x ≡ true)
        → SoundBy chosen box P → SoundBy chosen box Q
    sound-wider chosen box P Q f g h c w =
        record {
          allows = λ rest i m.
              let a : List ℕ = chosen ++ rest in
              allows-wider bound offset (length ps) a (numbers rows rep offset ps a) P Q f g h (told a m).small (λ v x l. c v x (omega (arith, m.0, l))) (w.allows rest i m);
        }

    -- no number stands between the bound and the offset
    in_all : (a ns : List ℕ) → Numbered rows rep bound offset ps a ns → (p : ℕ) → p < length ps → In bound offset (λ x. true) true (number_at ns p)
    in_all a ns t p h = go (pattern_at ps p) refl
      where
        go : (q : Pattern) → pattern_at ps p ≡ q → In bound offset (λ x. true) true (number_at ns p)
        go (variable v) e =
            let g : (v < length a) × (number_at ns p ≡ number_at a v) = t.given p v h e in
            inl (omega (arith, g.1, t.small v g.0), refl)
        go (apply f l) e = by (t.applied p f l h e).1
          where
            by : Held rows rep offset ps ns f l (number_at ns p) ⊎ Free rows rep offset ps t.done ns f l (number_at ns p) → In bound offset (λ x. true) true (number_at ns p)
            by (inl c) = inl (held_low rows rep bound offset ps table ns f l (number_at ns p) c, refl)
            by (inr c) = inr (omega (arith, c.number), refl)

    pub start-sound : (chosen : List ℕ) (box : Box) → SoundBy chosen box (start chosen box)
    unfolding start
    start-sound chosen box =
        record {
          allows = λ rest i m.
              let a : List ℕ = chosen ++ rest in
              record { alive = refl; rows = in_all a (numbers rows rep offset ps a) (told a m); variables = start-rows chosen box rest i };
        }

  -- ---- the pruning

  -- no breach is left in a branch that is shut
  pub shut_none : (chosen : List ℕ) (box : Box) (P : Possible) → SoundBy chosen box P → P.alive ≡ false → (rest : List ℕ) → Inside box rest → So (chosen ++ rest) → ⊥
  shut_none chosen box P w e rest i m = false-true (w.allows rest i m).alive e

  -- and nothing is tried there
  pub shut-tries : (next : List ℕ → Box → Found) (possible : List ℕ → Box → Possible) (chosen : List ℕ) (box : Box) → (possible chosen box).alive ≡ false
      → try_box next chosen (pruned_by possible chosen box) ≡ nothing
  unfolding pruned_by
  shut-tries next possible chosen box e = try-none next chosen (keeps (possible chosen box)) (λ v x. shut-keeps (possible chosen box) v x e) box

  module _ (possible : List ℕ → Box → Possible) (sound : (chosen : List ℕ) (box : Box) → OfRows (starts rows rep) chosen box → SoundBy chosen box (possible chosen box)) where
    pub sound-keeps-all : KeepsAll So (starts rows rep) (pruned_by possible)
    unfolding keeps pruned_by
    sound-keeps-all = sift-keeps-all So (starts rows rep) (λ chosen box. keeps (possible chosen box)) safe
      where
        safe : (chosen : List ℕ) (box : Box) → OfRows (starts rows rep) chosen box → (rest : List ℕ) → Inside box rest → So (chosen ++ rest)
            → Kept (keeps (possible chosen box)) (length chosen) rest
        safe chosen box w rest i m = kept_at (keeps (possible chosen box)) (length chosen) rest each
          where
            P : Possible
            P = possible chosen box

            allowed : AllowsBy differs rows rep bound offset k P (chosen ++ rest)
            allowed = (sound chosen box w).allows rest i m

            each : (j : ℕ) → j < length rest → keeps P (length chosen + j) (number_at rest j) ≡ true
            each j h =
                and_both P.alive (P.candidates (length chosen + j) (number_at rest j)) allowed.alive
                (subst (λ (n : ℕ). P.candidates (length chosen + j) n ≡ true) (get_or-append-add chosen rest j 0)
                (allowed.variables (length chosen + j) (omega (arith, length-append chosen rest))))

    pub matched-first : search (dead differs rows rep offset k) (pruned_by possible) (variables k.patterns) [] (start_box rows rep k) ≡ first_by differs rows rep offset k
    matched-first = pruned-first differs rows rep offset k (pruned_by possible) (keeps-all-covers sound-keeps-all)

    pub matched-due : search (dead_now differs rows rep offset k) (pruned_by possible) (variables k.patterns) [] (start_box rows rep k) ≡ first_by differs rows rep offset k
    matched-due = due-first differs rows rep offset k (pruned_by possible) (keeps-all-covers sound-keeps-all)

    pub matched-from : (from : List ℕ) → length from ≡ variables k.patterns → First (AtOrAfter So from) (search_from differs rows rep offset k (pruned_by possible) from)
    matched-from from whole = first-from-all differs rows rep offset k (pruned_by possible) from whole sound-keeps-all

  -- a list of steps for each choice and box
  module _ (table : Table rows rep bound offset) (placed : AllPlaced 0 k.patterns) (steps : List ℕ → Box → List (Possible → Possible))
      (keeping : (chosen : List ℕ) (box : Box) → AllKeeping chosen (steps chosen box)) where
    pub steps-sound : (chosen : List ℕ) (box : Box) → OfRows (starts rows rep) chosen box → SoundBy chosen box (possible_by steps chosen box)
    unfolding possible_by
    steps-sound chosen box w = run_sound chosen (steps chosen box) (keeping chosen box) box (start chosen box) (start-sound table placed chosen box)

    pub steps-keep-all : KeepsAll So (starts rows rep) (pruned_by (possible_by steps))
    steps-keep-all = sound-keeps-all (possible_by steps) steps-sound

    pub steps_first : search (dead_now differs rows rep offset k) (pruned_by (possible_by steps)) (variables k.patterns) [] (start_box rows rep k) ≡ first_by differs rows rep offset k
    steps_first = matched-due (possible_by steps) steps-sound
