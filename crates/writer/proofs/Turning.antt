-- One literal after the other, as the code writes it.
--     turn-..       the turn of one literal
--     Turning       a loop over literals: what is at hand after the first so many
--     turning-..    its start, its next turn and its end; what a turn asks; the run keeps its length
--     mine          what these functions leave to show
-- Assumes nothing.
use mathlib.Core.Bool.{Bool, true, false}
use mathlib.Core.List.{List}
use mathlib.Core.Path.{◌≡◌, refl, sym, ap, ap₂, ◌∙◌, subst}
use Prim.Native.Nat.{ℕ, suc, ◌+◌, ◌≤◌, ◌<◌}
use native.Mathlib.Numerals.{add-one}
use native.Mathlib.Omega.{arith}
use borrow.Author.Rules.{rules}
use borrow.Author.Tests.{ltb-true, ltb-false}
use lib.Dec.{ltb}
use lib.ListN.{length, get_or, set, replicate}
use Rattle.meaning.specs.Grounds.{literal_at}
use Rattle.meaning.proofs.Entries.{length-entries}
use Rattle.runs.specs.Limits.{most_literals}
use Rattle.runs.specs.Runs.{row_count, rows_of, literal_count, literals_of}
use Rattle.grounds_numbers.specs.Pairs.{pairs_in}
use Rattle.grounds_laws.specs.Limits.{draft_run, number_run}
use Rattle.grounds_laws.specs.Classes.{state_of, upto}
use Rattle.grounds_laws.specs.Concluding.{Said, said, resumed, owner_of}
use Rattle.grounds_conclusions.specs.Saying.{Says, saying_by}
use Rattle.grounds_batches.specs.Sending.{new_of, Out, out_of, batch, Small}
use Rattle.grounds_batches.specs.Drawing.{Drawn, blank_drawn, draw_said, draw_one, drawn_to}
use Rattle.grounds_words.specs.Emitting.{Batched, Sendable}
use Rattle.grounds_words.specs.declared.Out.{Out as Held}
use Rattle.grounds_words.specs.Holding.{Keeps}
use Rattle.writer.specs.Drawing.{asked_of, said_to, Sayable, turns_to, Drawable, Drew}
use Rattle.writer.specs.declared.drawing.Asked.{Asked}
use Rattle.writer.proofs.Showing.{said-run, owner-run, meant_to, turns-are, meant_at, said-is, Far, far-to, far-column, far-sendable}

-- ---- one turn

module _ (keys apart : List ℕ) (q : Asked) (table : List ℕ) (from : ℕ) (cells news : List ℕ) (next : ℕ) (w : Sayable keys apart q table from cells news next) where
  pub turn-start : 0 < length cells
  turn-start = w.start

  pub turn-sendable : {after : List ℕ} {first difference : ℕ} → Says after first difference (said_to keys apart q table from cells) → Sendable after news next
  turn-sendable s = subst (λ (l : List ℕ). Sendable l news next) (sym s.column) w.sendable

pub turn-says : (keys apart : List ℕ) (q : Asked) (table : List ℕ) (from : ℕ) (cells : List ℕ) {after : List ℕ} {first difference : ℕ}
    → Says after first difference (saying_by keys apart q.kind q.left q.right (state_of (set cells 0 from) table))
    → Says after first difference (said_to keys apart q table from cells)
unfolding said_to
turn-says keys apart q table from cells s = s

pub keeps-on : {a b c : Held} → Keeps a b → Keeps b c → Keeps a c
keeps-on e f = record { words = f.words ∙ e.words; numbers = f.numbers ∙ e.numbers }

pub turn-batched : {n from shared owner first : ℕ} {cells : List ℕ} {before after : Out} → shared ≡ from → Batched n shared owner cells first before after
    → Batched n from owner cells first before after
turn-batched {n} {from} {shared} {owner} {first} {cells} {before} {after} e w = subst (λ (x : ℕ). Batched n x owner cells first before after) e w

batch-alike : (o : Out) (n from owner : ℕ) {s s' : ℕ} {cells cells' : List ℕ} → cells ≡ cells' → s ≡ s'
    → batch n from owner cells s o ≡ batch n from owner cells' s' o
batch-alike o n from owner e f = rw (e, f)

turn-made : (n j : ℕ) (before firsts differences : List ℕ) {from owner first difference next end : ℕ} {cells news : List ℕ} {steps : List (List ℕ)} {out : Out} {s : Said} → Says cells first difference s
    → Batched n from owner cells first out (out_of news next steps)
    → end ≡ new_of news first
    → record { cells = cells; out = out_of news next steps; ends = set firsts j end; differences = set differences j difference }
    ≡ draw_said n from owner j s (record { cells = before; out = out; ends = firsts; differences = differences })
unfolding draw_said
turn-made n j before firsts differences {from} {owner} {first} {difference} {next} {end} {cells} {news} {steps} {out} {s} says sends e =
    let o : out_of news next steps ≡ batch n from owner s.cells s.first out = sends.out ∙ batch-alike out n from owner says.column says.step in
    rw (says.column, says.stated, e ∙ ap₂ new_of (ap (λ (x : Out). x.news) o) says.step, o)

draw-alike : (n j : ℕ) {from from' owner owner' : ℕ} {s s' : Said} {d d' : Drawn} → from ≡ from' → owner ≡ owner' → s ≡ s' → d ≡ d'
    → draw_said n from owner j s d ≡ draw_said n from' owner' j s' d'
draw-alike n j e f g h = rw (e, f, g, h)

-- ---- all of them

module _ (keys ns apart literals : List ℕ) (n : ℕ) (cells₀ table : List ℕ) (steps₀ : List (List ℕ)) where
  abbrev to : ℕ → Drawn
  to = turns_to keys ns apart literals n cells₀ table steps₀

  abbrev said_at : ℕ → List ℕ → Said
  said_at j column = said_to keys apart (asked_of ns literals n j) table (get_or cells₀ 0 0) column

  -- of so many literals, and from so many shared steps on
  pub record Turning (many from j : ℕ) (cells : List ℕ) (out : Out) (firsts differences : List ℕ) : Type 0 where
    pub stands : record { cells = cells; out = out; ends = firsts; differences = differences } ≡ to j
    pub small : (i : ℕ) → i < j → Small (said_at i (to i).cells).cells
    pub reach : j ≤ many
    pub count : many ≡ literal_count literals
    pub shared : from ≡ get_or cells₀ 0 0

  pub turning-start : {many from next : ℕ} {news firsts differences : List ℕ} → many ≡ literal_count literals → from ≡ get_or cells₀ 0 0 → next ≡ 0
      → news ≡ replicate number_run 0
      → firsts ≡ replicate most_literals 0
      → differences ≡ replicate most_literals 0
      → Turning many from 0 cells₀ (out_of news next steps₀) firsts differences
  unfolding turns_to drawn_to upto blank_drawn
  turning-start c d n e f g =
      record { stands = rw (n, e, f, g); small = λ i h. absurd (omega arith); reach = omega arith; count = c; shared = d }

  module _ (w : Drawable keys ns apart literals n cells₀ table steps₀) {many from j : ℕ} {cells news firsts differences : List ℕ} {next : ℕ} {steps : List (List ℕ)}
      (at : Turning many from j cells (out_of news next steps) firsts differences) where
    column : cells ≡ (to j).cells
    column = ap (λ (d : Drawn). d.cells) at.stands

    far : Far keys ns apart literals n cells₀ table steps₀ w j
    far = far-to keys ns apart literals n cells₀ table steps₀ w j (omega (arith, at.reach, at.count)) at.small

    turns : to j ≡ meant_to keys ns apart literals n cells₀ table steps₀ w j
    turns = turns-are keys ns apart literals n cells₀ table steps₀ w j

    column-long : length cells ≡ draft_run
    column-long = ap (λ (d : Drawn). length d.cells) (at.stands ∙ turns) ∙ far-column keys ns apart literals n cells₀ table steps₀ w j far

    module _ (h : j < many) where
      pub turning-inside : j < literal_count literals
      turning-inside = omega (arith, at.count)

      pub turning-place : j < most_literals
      turning-place = omega (arith, w.literals-few, at.count)

      sendable : Sendable (said_at j cells).cells news next
      sendable =
          subst (λ (x : Said). Sendable x.cells news next) (sym (said-is keys ns apart literals n cells₀ table steps₀ w j turning-inside cells))
          (subst (λ (d : Drawn). Sendable (meant_at keys ns apart literals n cells₀ table steps₀ w j d.cells).cells d.out.news d.out.next) (sym (at.stands ∙ turns))
          (far-sendable keys ns apart literals n cells₀ table steps₀ w j turning-inside far))

      module _ {q : Asked} (eq : q ≡ asked_of ns literals n j) where
        pub turning-sayable : Sayable keys apart q table from cells news next
        turning-sayable =
            rw (eq, at.shared)
            (record { start = omega (arith, column-long); sendable = sendable })

        module _ {cells₁ news₁ : List ℕ} {steps₁ : List (List ℕ)} {first difference next₁ end : ℕ} (says : Says cells₁ first difference (said_to keys apart q table from cells))
            (sends : Batched n from q.owner cells₁ first (out_of news next steps) (out_of news₁ next₁ steps₁)) (ee : end ≡ new_of news₁ first) where
          abbrev after : Drawn
          after = record { cells = cells₁; out = out_of news₁ next₁ steps₁; ends = set firsts j end; differences = set differences j difference }

          said_same_lem : said_to keys apart q table from cells ≡ said (row_count keys) (rows_of keys) ns n (pairs_in apart) (literal_at (literals_of literals) j) (resumed (state_of cells₀ table) (to j).cells)
          said_same_lem = rw (eq, at.shared, column) (sym (said-run keys ns apart literals n cells₀ table j turning-inside (to j).cells))

          owner-same : q.owner ≡ owner_of j (literal_at (literals_of literals) j)
          owner-same = ap (λ (x : Asked). x.owner) eq ∙ sym (owner-run keys ns apart literals n cells₀ table j turning-inside)

          next-stands : after ≡ to (suc j)
          unfolding turns_to drawn_to upto draw_one
          next-stands = turn-made n j cells firsts differences says sends ee ∙ draw-alike n j at.shared owner-same said_same_lem at.stands

          next_small : (i : ℕ) → i < suc j → (b : Bool) → ltb i j ≡ b → Small (said_at i (to i).cells).cells
          next_small i l true e = at.small i (ltb-true i j e)
          next_small i l false e =
              let z : j ≡ i = omega (arith, ltb-false i j e) in
              subst (λ (x : ℕ). Small (said_at x (to x).cells).cells) z
              (subst Small (says.column ∙ ap (λ (x : Said). x.cells) (said_same_lem ∙ said-run keys ns apart literals n cells₀ table j turning-inside (to j).cells)) sends.small)

          after-turn : Turning many from (j + 1) cells₁ (out_of news₁ next₁ steps₁) (set firsts j end) (set differences j difference)
          after-turn = rw add-one (record { stands = next-stands; small = λ i l. next_small i l (ltb i j) refl; reach = omega arith; count = at.count; shared = at.shared })

  -- the column that is left says what the turn was, and so the others
  pub turning-next : {many from j first difference d end next next₁ : ℕ} {cells news firsts differences cells₁ news₁ : List ℕ} {steps steps₁ : List (List ℕ)} {q : Asked}
      → Says cells₁ first difference (said_to keys apart q table from cells)
      → Batched n from q.owner cells₁ first (out_of news next steps) (out_of news₁ next₁ steps₁)
      → Turning many from j cells (out_of news next steps) firsts differences
      → end ≡ new_of news₁ first
      → d ≡ difference
      → q ≡ asked_of ns literals n j
      → j < many
      → Drawable keys ns apart literals n cells₀ table steps₀
      → Turning many from (j + 1) cells₁ (out_of news₁ next₁ steps₁) (set firsts j end) (set differences j d)
  turning-next {many} {from} {j} {end = end} {next₁ = next₁} {firsts = firsts} {differences = differences} {cells₁ = cells₁} {news₁ = news₁} {steps₁ = steps₁} says sends at ee ed eq h w =
      subst (λ (x : ℕ). Turning many from (j + 1) cells₁ (out_of news₁ next₁ steps₁) (set firsts j end) (set differences j x)) (sym ed) (after-turn w at h eq says sends ee)

  pub turning-done : {many from j next : ℕ} {cells news firsts differences : List ℕ} {steps : List (List ℕ)} → Turning many from j cells (out_of news next steps) firsts differences
      → many ≤ j
      → Drew keys ns apart literals n cells₀ table steps₀ (record { steps = next; conclusions = record { firsts = firsts; differences = differences } }) steps
  turning-done {many} {from} {j} {next} {cells} {news} {firsts} {differences} {steps} w h =
      let z : j ≡ literal_count literals = omega (arith, w.reach, w.count) in
      let e : record { cells = cells; out = out_of news next steps; ends = firsts; differences = differences } ≡ to (literal_count literals) = w.stands ∙ ap to z in
      record {
        many = ap (λ (d : Drawn). d.out.next) e;
        words = ap (λ (d : Drawn). d.out.steps) e;
        firsts = ap (λ (d : Drawn). d.ends) e;
        differences = ap (λ (d : Drawn). d.differences) e;
        small = λ i l. w.small i (omega arith);
      }

module _ {keys ns apart literals : List ℕ} {n : ℕ} {cells₀ table : List ℕ} {steps₀ : List (List ℕ)} (w : Drawable keys ns apart literals n cells₀ table steps₀) where
  pub drawable-inside : n ≤ length ns
  drawable-inside = omega (arith, w.rows, w.filled.numbers-long, length-entries w.context.rows w.places w.rule.patterns)

  start-long : length cells₀ ≡ draft_run
  start-long = column-long keys ns apart literals n cells₀ table steps₀ w (turning-start keys ns apart literals n cells₀ table steps₀ {next = 0} refl refl refl refl refl refl)

  pub drawable-start : 0 < length cells₀
  drawable-start = omega (arith, start-long)

  pub drawable-few : {many : ℕ} → many ≡ literal_count literals → many ≤ most_literals
  drawable-few e = omega (arith, w.literals-few)

pub ruleset mine = (
  rules,
  turn-start,
  turn-sendable,
  turn-says,
  turn-batched,
  keeps-on,
  turning-start,
  turning-inside,
  turning-place,
  turning-sayable,
  turning-next,
  turning-done,
  drawable-inside,
  drawable-start,
  drawable-few,
)

pub ruleset next = (ltb-true, turning-next)
