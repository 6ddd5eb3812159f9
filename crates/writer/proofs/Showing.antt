-- What is written for a breach, literal by literal, and that it shows the breach.
--     used-alike              whether a step is used rests on the conclusions alone
--     follow-kinded           the kind of a step that follows is a byte
--     meant_to, turns-are      what is written by the context and the rule is what is written by the runs
--     meant_at                 what is said by them for a literal
--     said-run, owner-run     what is said for a literal, and whose steps its own are, as the code asks for it
--     said-is                 the same by the context and the rule
--     Far                     what holds after so many literals
--     far-to                  it does, where the column of each of them holds numbers of 16 bits
--     far-column              the column keeps its length
--     far-sendable            a literal's steps fit their column, each kind a byte, and there is a number for each step written after them
--     drew-shown              the words and conclusions that are left show the breach
-- Assumes nothing.
use mathlib.Core.Bool.{Bool, true, false}
use mathlib.Core.List.{List, [], append-nil}
use mathlib.Core.Path.{◌≡◌, refl, ap, sym, ◌∙◌, subst}
use Prim.Native.Nat.{ℕ, zero, suc, ◌+◌, ◌≤◌, ◌<◌}
use native.Mathlib.Omega.{arith}
use lib.Dec.{eqb}
use lib.ListN.{length, get_or, set, take}
use Rattle.meaning.specs.Context.{Term, Row, Context, equations, differences}
use Rattle.meaning.specs.Rules.{Literal, Clause}
use Rattle.meaning.specs.Columns.{literal_of}
use Rattle.meaning.specs.Grounds.{Step, step_at, Conclusion, conclusion_for, literal₀, literal_at, Derives, by-statement, by-reflexivity, by-symmetry, by-transitivity, by-congruence, by-addition, Verified, accepted}
use Rattle.meaning.specs.Checking.{numbered}
use Rattle.meaning.proofs.Entries.{length-entries}
use Rattle.runs.specs.Limits.{most_literals}
use Rattle.runs.specs.Runs.{row_count, rows_of, sign_in, left_in, right_in, literal_count, literals_of}
use Rattle.runs.proofs.Saying.{length-literals, literals-at}
use Rattle.replies.specs.declared.Outcome.{Outcome}
use Rattle.grounds_steps.specs.Steps.{most_each, most_steps}
use Rattle.grounds_numbers.specs.Pairs.{pairs_in}
use Rattle.grounds_verdict.specs.declared.Conclusions.{Conclusions}
use Rattle.grounds_verdict.proofs.Concluding.{conclusions-at}
use Rattle.grounds_judgement.specs.Claims.{concluded_in}
use Rattle.grounds_laws.specs.Limits.{draft_run}
use Rattle.grounds_laws.specs.Draft.{count_in, step_of, step_in, draft}
use Rattle.grounds_laws.specs.Classes.{State, state_of}
use Rattle.grounds_laws.specs.Rounds.{blank, started, stated, rounds}
use Rattle.grounds_laws.specs.Concluding.{Said, said, resumed, owner_of}
use Rattle.grounds_laws.proofs.Drafts.{Follow, length-draft}
use Rattle.grounds_conclusions.proofs.Sayings.{said_of}
use Rattle.grounds_batches.specs.Sending.{steps_in as steps_of, Small}
use Rattle.grounds_batches.specs.Drawing.{Drawn, blank_drawn, drawn_to, drawn, end_written, Used, by-step, by_end, owned_by}
use Rattle.grounds_batches.proofs.Marks.{draft-at}
use Rattle.grounds_batches.proofs.Draws.{Drawing}
use Rattle.grounds_batches.proofs.Breaches.{breach-shared, breach-said, breach-start, breach-next, breach-accepted, breach-each}
use Rattle.grounds_words.specs.Emitting.{Kinded, Sendable}
use Rattle.writer.specs.Claims.{Shown}
use Rattle.writer.specs.Drawing.{owner_by, asked_of, said_to, turns_to, Drawable, Drew, grounds_of}
use Rattle.writer.specs.declared.drawing.Support.{Support}

used-alike : (steps : List Step) (f g : ℕ → Conclusion) (n p : ℕ) → ((j : ℕ) → j < n → f j ≡ g j) → Used steps f n p → Used steps g n p
used-alike steps f g n p e (by-step w) = by-step w
used-alike steps f g n p e (by_end j h q) = by_end j h (subst (λ (d : Conclusion). d.first ≡ suc p) (e j h) q)

-- ---- kinds

module _ (c : Context) (k : Clause) (a : List ℕ) where
  kind-small : (earlier : List Step) (s : Step) {t u : Term} → Derives c k a earlier s t u → s.kind < 256
  kind-small earlier s (by-statement e w) = omega arith
  kind-small earlier s (by-reflexivity e w) = omega arith
  kind-small earlier s (by-symmetry e w) = omega arith
  kind-small earlier s (by-transitivity e m v w) = omega arith
  kind-small earlier s (by-congruence e f ts us p q w) = omega arith
  kind-small earlier s (by-addition e w) = omega arith

  follow-kinded : (rows from owner : ℕ) (cells : List ℕ) → Follow c k a (draft rows from owner cells) → Kinded cells
  unfolding step_in step_of
  follow-kinded rows from owner cells follow =
      record {
        kinds = λ i h.
            subst (λ (s : Step). s.kind < 256) (draft-at rows from owner cells i h)
            (kind-small (take i (draft rows from owner cells)) (step_at (draft rows from owner cells) i)
            (follow i (omega (arith, length-draft rows from owner cells))).derives);
      }

-- ---- by the runs, and by the context and the rule

turns-alike : (ks : List Row) (ns : List ℕ) (steps : List (List ℕ)) (j : ℕ) {n n' rows rows' : ℕ} {ds ds' : List (ℕ × ℕ)} {s s' : State} {ls ls' : List Literal} → n ≡ n'
    → rows ≡ rows'
    → ds ≡ ds'
    → s ≡ s'
    → ls ≡ ls'
    → drawn_to n ks ns rows ds s ls j (blank_drawn s.cells steps) ≡ drawn_to n' ks ns rows' ds' s' ls' j (blank_drawn s'.cells steps)
turns-alike ks ns steps j e f g h i = rw (e, f, g, h, i)

said-alike : (ks : List Row) (ns : List ℕ) {n n' rows rows' : ℕ} {ds ds' : List (ℕ × ℕ)} {l l' : Literal} {s s' : State} → n ≡ n'
    → rows ≡ rows'
    → ds ≡ ds'
    → l ≡ l'
    → s ≡ s'
    → said n ks ns rows ds l s ≡ said n' ks ns rows' ds' l' s'
said-alike ks ns e f g h i = rw (e, f, g, h, i)

owner-by : (kind p q j : ℕ) → owner_by kind j ≡ owner_of j (literal_of kind p q)
unfolding owner_by owner_of literal_of
owner-by kind p q j = go (eqb kind 6) refl
  where
    go : (b : Bool) → eqb kind 6 ≡ b → owner_by kind j ≡ owner_of j (literal_of kind p q)
    go true e = rw (owner_by, e, literal_of, owner_of)
    go false e = rw (owner_by, e, literal_of, owner_of) (omega arith)

module _ (keys ns apart literals : List ℕ) (n : ℕ) (cells table : List ℕ) (j : ℕ) (h : j < literal_count literals) where
  literal-is : literal_at (literals_of literals) j ≡ literal_of (sign_in literals j) (left_in literals j) (right_in literals j)
  literal-is = literals-at literals j literal₀ h

  pub said-run : (column : List ℕ)
      → said (row_count keys) (rows_of keys) ns n (pairs_in apart) (literal_at (literals_of literals) j) (resumed (state_of cells table) column)
      ≡ said_to keys apart (asked_of ns literals n j) table (get_or cells 0 0) column
  unfolding said_to asked_of resumed
  said-run column =
      ap (λ (l : Literal). said (row_count keys) (rows_of keys) ns n (pairs_in apart) l (state_of (set column 0 (get_or cells 0 0)) table)) literal-is
      ∙ said_of (row_count keys) (rows_of keys) ns n (pairs_in apart) (sign_in literals j) (left_in literals j) (right_in literals j) (state_of (set column 0 (get_or cells 0 0)) table)

  pub owner-run : owner_of j (literal_at (literals_of literals) j) ≡ (asked_of ns literals n j).owner
  unfolding asked_of
  owner-run = ap (owner_of j) literal-is ∙ sym (owner-by (sign_in literals j) (left_in literals j) (right_in literals j) j)

module _ (keys ns apart literals : List ℕ) (n : ℕ) (cells table : List ℕ) (steps : List (List ℕ)) (w : Drawable keys ns apart literals n cells table steps) where
  abbrev c : Context
  c = w.context

  abbrev k : Clause
  k = w.rule

  abbrev a : List ℕ
  a = w.places

  abbrev all : ℕ
  all = length c.rows + length k.patterns

  abbrev diffs : List (ℕ × ℕ)
  diffs = numbered ns (differences c)

  abbrev final : State
  final = rounds all (rows_of keys) most_each (stated all (numbered ns (equations c)) (started ns all blank))

  pub size : row_count keys ≡ all
  size = omega (arith, w.filled.keys-long, length-entries c.rows a k.patterns)

  pub many : literal_count literals ≡ length k.literals
  many = sym (length-literals literals) ∙ ap length w.literals-said

  few-literals : length k.literals ≤ most_literals
  few-literals = omega (arith, many, w.literals-few)

  closed_is : state_of cells table ≡ final
  closed_is = w.closed ∙ rw size

  abbrev pub meant_to : ℕ → Drawn
  meant_to j = drawn_to all (rows_of keys) ns (length c.rows) diffs final k.literals j (blank_drawn final.cells steps)

  pub turns-are : (j : ℕ) → turns_to keys ns apart literals n cells table steps j ≡ meant_to j
  unfolding turns_to
  turns-are j = turns-alike (rows_of keys) ns steps j size w.rows w.differences-said closed_is w.literals-said

  abbrev pub meant_at : ℕ → List ℕ → Said
  meant_at j column = said all (rows_of keys) ns (length c.rows) diffs (literal_at k.literals j) (resumed final column)

  said-final : (j : ℕ) (column : List ℕ)
      → said (row_count keys) (rows_of keys) ns n (pairs_in apart) (literal_at (literals_of literals) j) (resumed (state_of cells table) column) ≡ meant_at j column
  said-final j column =
      said-alike (rows_of keys) ns size w.rows w.differences-said (ap (λ (ls : List Literal). literal_at ls j) w.literals-said) (ap (λ (s : State). resumed s column) closed_is)

  pub said-is : (j : ℕ) → j < literal_count literals → (column : List ℕ)
      → said_to keys apart (asked_of ns literals n j) table (get_or cells 0 0) column ≡ meant_at j column
  said-is j h column = sym (said-run keys ns apart literals n cells table j h column) ∙ said-final j column

  -- ---- one literal after the other

  room' : 112320 ≤ length steps
  room' = omega (arith, w.room)

  abbrev pub Far : ℕ → Type 0
  Far j = Drawing c k a final steps j (meant_to j)

  far-start : Far 0
  far-start = breach-start c k a w.formed w.chosen w.holds keys ns w.filled w.rows_few w.patterns-few few-literals steps room'

  far-next : (j : ℕ) → j < length k.literals → Small (meant_at j (meant_to j).cells).cells → Far j → Far (suc j)
  far-next = breach-next c k a w.formed w.chosen w.holds keys ns w.filled w.rows_few w.patterns-few few-literals steps room'

  abbrev pub SmallAt : ℕ → Type 0
  SmallAt j = Small (said_to keys apart (asked_of ns literals n j) table (get_or cells 0 0) (turns_to keys ns apart literals n cells table steps j).cells).cells

  small_is : (j : ℕ) → j < literal_count literals → SmallAt j → Small (meant_at j (meant_to j).cells).cells
  small_is j h s = subst (λ (x : Said). Small x.cells) (said-is j h (meant_to j).cells) (subst (λ (d : Drawn). Small (said_to keys apart (asked_of ns literals n j) table (get_or cells 0 0) d.cells).cells) (turns-are j) s)

  pub far-to : (j : ℕ) → j ≤ literal_count literals → ((i : ℕ) → i < j → SmallAt i) → Far j
  far-to zero h small = far-start
  far-to (suc j) h small =
      far-next j (omega (arith, many)) (small_is j (omega arith) (small j (omega arith))) (far-to j (omega arith) (λ i l. small i (omega arith)))

  module _ (j : ℕ) (f : Far j) where
    pub far-column : length (meant_to j).cells ≡ draft_run
    far-column =
        f.under.long
        ∙ (breach-shared c k a w.formed w.chosen w.holds keys ns w.filled w.rows_few w.patterns-few few-literals).going.sound.good.long

  module _ (j : ℕ) (h : j < literal_count literals) (f : Far j) where
    inside : j < length k.literals
    inside = omega (arith, many)

    pub far-sendable : Sendable (meant_at j (meant_to j).cells).cells (meant_to j).out.news (meant_to j).out.next
    far-sendable =
        record {
          places =
              omega (
                arith,
                (breach-said c k a w.formed w.chosen w.holds keys ns w.filled w.rows_few w.patterns-few few-literals j inside (meant_to j).cells f.under).most,
                (breach-said c k a w.formed w.chosen w.holds keys ns w.filled w.rows_few w.patterns-few few-literals j inside (meant_to j).cells f.under).under.long,
                (breach-shared c k a w.formed w.chosen w.holds keys ns w.filled w.rows_few w.patterns-few few-literals).going.sound.good.long,
              );
          most =
              omega (arith, (breach-said c k a w.formed w.chosen w.holds keys ns w.filled w.rows_few w.patterns-few few-literals j inside (meant_to j).cells f.under).most);
          numbers =
              omega (
                arith,
                (breach-said c k a w.formed w.chosen w.holds keys ns w.filled w.rows_few w.patterns-few few-literals j inside (meant_to j).cells f.under).most,
                f.numbers,
              );
          kinded =
              follow-kinded c k a (length c.rows) (count_in final.cells) (owner_of j (literal_at k.literals j)) (meant_at j (meant_to j).cells).cells
              (breach-said c k a w.formed w.chosen w.holds keys ns w.filled w.rows_few w.patterns-few few-literals j inside (meant_to j).cells f.under).follow;
          few =
              omega (
                arith,
                (breach-said c k a w.formed w.chosen w.holds keys ns w.filled w.rows_few w.patterns-few few-literals j inside (meant_to j).cells f.under).most,
                f.most,
                many,
                w.literals-few,
              );
        }

  -- ---- all of them

  module _ (small : (j : ℕ) → j < literal_count literals → SmallAt j) where
    abbrev m : ℕ
    m = length k.literals

    abbrev end : Drawn
    end = meant_to m

    abbrev made : List Step
    made = steps_of end.out

    abbrev d : Conclusions
    d = record { firsts = end.ends; differences = end.differences }

    done : Far m
    done = far-to m (omega (arith, many)) (λ i l. small i (omega (arith, many)))

    concluded : (j : ℕ) → j < m → conclusion_for (suc j) (concluded_in d) ≡ end_written end j
    concluded j h =
        ap (conclusion_for (suc j)) (sym (append-nil (concluded_in d)))
        ∙ conclusions-at end.ends end.differences most_literals j [] (omega (arith, few-literals))

    verified : Verified c k a made (concluded_in d) accepted
    unfolding drawn
    verified =
        breach-accepted c k a w.formed w.chosen w.holds keys ns w.filled w.rows_few w.patterns-few few-literals steps room' done (concluded_in d)
        concluded

    used : (p : ℕ) → p < end.out.next → Used made (λ j. conclusion_for (suc j) (concluded_in d)) m p
    used p h = used-alike made (end_written end) (λ j. conclusion_for (suc j) (concluded_in d)) m p (λ j l. sym (concluded j l)) (done.used p h)

    few : end.out.next ≤ most_steps
    few = omega (arith, done.most, few-literals)

    few-each : (owner : ℕ) → owned_by owner made ≤ most_each
    unfolding drawn
    few-each owner =
        omega (arith, breach-each c k a w.formed w.chosen w.holds keys ns w.filled w.rows_few w.patterns-few few-literals steps room' done owner)

    drawn-shown : (o : Outcome)
        → Shown steps (record { outcome = o; places = a; steps = end.out.next; literals = m; conclusions = d }) end.out.steps c k
    unfolding steps_of
    drawn-shown o =
        record {
          literals = refl;
          few = few;
          few_each = few-each;
          verified = verified;
          used = used;
          words = record { long = done.long; rest = done.rest };
        }

  -- ---- what is left

  concluded-same : (x : Conclusions) {f g : List ℕ} → x.firsts ≡ f → x.differences ≡ g → x ≡ record { firsts = f; differences = g }
  concluded-same x e f = rw (← e, ← f)

  shown-alike : (o : Outcome) {many many' m m' : ℕ} {d d' : Conclusions} {steps' steps'' : List (List ℕ)} → many ≡ many' → m ≡ m' → d ≡ d' → steps' ≡ steps''
      → Shown steps (record { outcome = o; places = a; steps = many'; literals = m'; conclusions = d' }) steps'' c k
      → Shown steps (record { outcome = o; places = a; steps = many; literals = m; conclusions = d }) steps' c k
  shown-alike o e f g h s = rw (e, f, g, h) s

  turns-all : turns_to keys ns apart literals n cells table steps (literal_count literals) ≡ meant_to (length k.literals)
  turns-all = turns-are (literal_count literals) ∙ ap meant_to many

  pub drew-shown : {r : Support} {steps' : List (List ℕ)} → Drew keys ns apart literals n cells table steps r steps' → (o : Outcome)
      → Shown steps (grounds_of o a (literal_count literals) r) steps' c k
  drew-shown {r} {steps'} e o =
      shown-alike o (e.many ∙ ap (λ (x : Drawn). x.out.next) turns-all) many
      (concluded-same r.conclusions (e.firsts ∙ ap (λ (x : Drawn). x.ends) turns-all) (e.differences ∙ ap (λ (x : Drawn). x.differences) turns-all))
      (e.words ∙ ap (λ (x : Drawn). x.out.steps) turns-all)
      (drawn-shown e.small o)
