-- The demands tried: they can be met, and useless candidates fail them, each on the texts that its law names, whatever it does elsewhere.
--     some-finder, some-normaliser               what is computed meets the demands
--     no_none, no-refused, no-row-0              demand 2, on either of the first two cases of the sheet
--     no-copied, no-silent, no-mute              demand 3: texts given back as they are; the lent space left as it was, whatever is answered
--     no-unwritten                               demand 1, on the empty text
--     no-hasty                                   demand 2: what a closing of one round finds
-- Assumes nothing.
use mathlib.Core.List.{List, [], ◌∷◌, ◌++◌}
use mathlib.Core.Logic.{◌⊎◌, inl, inr}
use mathlib.Core.Path.{◌≡◌, refl, ap, sym, ◌∙◌, subst}
use Prim.Native.Nat.{ℕ, zero, suc, ◌<◌}
use native.Mathlib.Omega.{arith}
use lib.ListN.{length, take, drop, replicate, length-replicate}
use lib.Seq.{take_all, take_at}
use Rattle.meaning.specs.Context.{same, Row, Statement, Context, differences, differences_of, term_at, node, stop, terms, grow, pick, equations_of, equations}
use Rattle.meaning.specs.Equality.{reflexive, EqualIn, given, rep_at}
use Rattle.meaning.specs.Rules.{found, variables}
use Rattle.meaning.specs.Text.{narrow, Refusal, put, read, taken, ledger_of, clause_of, read_lines, lines_of, lines_from, digit, fields, is_listed, listed_as, size_of, entry_of, rank_of, put_context, put_clause, first_failing, is_nowhere, non_digit, legible, known, sized, ranked, room, named_by, table_of, no_row, refers, rows_agree, patterns_agree, agrees, tests_of, first_fault, Reading, faulty}
use Rattle.meaning.specs.Writing.{context_text, normal_of, joins, sorted, rows_text, statements_text}
use Rattle.meaning.specs.Replies.{Replies, Writes, Reply, refused, breach, none, Written, unwritten, wrote}
use Rattle.meaning.specs.Formed.{Fit}
use Rattle.meaning.specs.ByTable.{same_list, clash_of, clash_from}
use Rattle.meaning.specs.Values.{numbers, number, stages, step, number_of, met, is_over, held, rows_at, levels, levels_from, level_of, highest}
use Rattle.meaning.specs.Following.{follows_by, differ_by}
use Rattle.meaning.specs.FirstBy.{first_by, seek, try_all, or_else, lowest, breaks, all_hold_by, holds_by}
use Rattle.meaning.specs.Sheet.{sheet, bytes, lullaby, chosen_twice}
use Rattle.meaning.specs.Demands.{Alike, Finder, Normaliser, RefusesRightly, FindsFirst, LeavesRightly, Gives, KeepsMeaning, Tells}
use Rattle.meaning.specs.Closing.{move, total, agree, close, rounds, round, rows_pass, row_pass, stated_pass, upto, unite, unite_if, count}
use Rattle.meaning.proofs.Promised.{model-rows, closing-represents}
use Rattle.meaning.proofs.Taken.{read-formed}
use Rattle.meaning.proofs.Computed.{leave, normalise, reply_to, rep_of, normal_on, settled, verdict, reply_on, judge}
use Rattle.meaning.proofs.Demanded.{keeps-meaning}
use Rattle.meaning.proofs.Answered.{writes_one, normalise-writes, reply_to-replies}
use Rattle.meaning.proofs.Rightly.{right-refuses, right-finds, right-leaves}
use Rattle.meaning.proofs.Sheet.{sheet-shown}

-- ---- what meets them

pub some-finder : RefusesRightly reply_to × FindsFirst reply_to
some-finder = (right-refuses reply_to reply_to-replies, right-finds reply_to reply_to-replies)

pub some-normaliser : LeavesRightly normalise × KeepsMeaning normalise
some-normaliser = (right-leaves normalise normalise-writes, keeps-meaning)

-- ---- useless finders: demand 2, on the first two cases of the sheet

-- a reply to one of the two texts
abbrev Once : Finder → Reply → Type 0
Once f r = (f (bytes lullaby) ≡ r) ⊎ (f (bytes chosen_twice) ≡ r)

-- which is a breach of two variables
once : (f : Finder) → FindsFirst f → (r : Reply) → Once f r → (r ≡ breach (0 ∷ 1 ∷ [])) ⊎ (r ≡ breach (2 ∷ 1 ∷ []))
unfolding sheet
once f d r (inl e) = inl (sym e ∙ (d (bytes lullaby) (found (0 ∷ 1 ∷ []))).1 sheet-shown.0)
once f d r (inr e) = inr (sym e ∙ (d (bytes chosen_twice) (found (2 ∷ 1 ∷ []))).1 sheet-shown.1.1.0)

pub no_none : (f : Finder) → Once f none → FindsFirst f → ⊥
no_none f h d = go (once f d none h)
  where
    go : (none ≡ breach (0 ∷ 1 ∷ [])) ⊎ (none ≡ breach (2 ∷ 1 ∷ [])) → ⊥
    go (inl e) = let z : ◌≡◌ {A = ℕ} 0 1 = cc in omega arith
    go (inr e) = let z : ◌≡◌ {A = ℕ} 0 1 = cc in omega arith

pub no-refused : (f : Finder) (r : Refusal) → Once f (refused r) → FindsFirst f → ⊥
no-refused f r h d = go (once f d (refused r) h)
  where
    go : (refused r ≡ breach (0 ∷ 1 ∷ [])) ⊎ (refused r ≡ breach (2 ∷ 1 ∷ [])) → ⊥
    go (inl e) = let z : ◌≡◌ {A = ℕ} 0 1 = cc in omega arith
    go (inr e) = let z : ◌≡◌ {A = ℕ} 0 1 = cc in omega arith

pub no-row-0 : (f : Finder) (n : ℕ) → Once f (breach (replicate n 0)) → FindsFirst f → ⊥
no-row-0 f n h d = go n (once f d (breach (replicate n 0)) h)
  where
    go : (n : ℕ) → (breach (replicate n 0) ≡ breach (0 ∷ 1 ∷ [])) ⊎ (breach (replicate n 0) ≡ breach (2 ∷ 1 ∷ [])) → ⊥
    go zero (inl e) = let z : ◌≡◌ {A = ℕ} 0 1 = cc in omega arith
    go zero (inr e) = let z : ◌≡◌ {A = ℕ} 0 1 = cc in omega arith
    go (suc zero) (inl e) = let z : ◌≡◌ {A = ℕ} 0 1 = cc in omega arith
    go (suc zero) (inr e) = let z : ◌≡◌ {A = ℕ} 0 1 = cc in omega arith
    go (suc (suc n)) (inl e) = let z : ◌≡◌ {A = ℕ} 0 1 = cc in omega arith
    go (suc (suc n)) (inr e) = let z : ◌≡◌ {A = ℕ} 0 2 = cc in omega arith

-- ---- useless normalisers

unfoldable pub constant_twice : List ℕ
constant_twice = bytes "01000100\n01000100\n"

unfoldable pub constant_twice_joined : List ℕ
constant_twice_joined = bytes "01000100\n01000100\n020001\n"

unfoldable pub two_constants : List ℕ
two_constants = bytes "01000100\n01000200\n"

unfoldable pub two_constants_joined : List ℕ
two_constants_joined = bytes "01000100\n01000200\n020001\n"

abbrev constant : ℕ → Row
constant f = record { symbol = f; args = [] }

abbrev stating : List Row → List Statement → Context
stating rs l = record { rows = rs; statements = l }

-- a text of two constant rows, with no statement or one equation
tells-plain : (text : List ℕ) (f g : ℕ) → read narrow text ≡ taken (record { rank = 1; ledger = ledger_of (constant f ∷ constant g ∷ []) [] 0 0; clause = clause_of [] [] })
    → Tells text (stating (constant f ∷ constant g ∷ []) [])
unfolding differences_of
tells-plain text f g e = record { all = _; reads = e; context = refl; consistent = λ m k. omega (arith, k.0) }

tells-joined : (text : List ℕ) (f g : ℕ) → read narrow text ≡ taken (record { rank = 2; ledger = ledger_of (constant f ∷ constant g ∷ []) (same 0 1 ∷ []) 1 0; clause = clause_of [] [] })
    → Tells text (stating (constant f ∷ constant g ∷ []) (same 0 1 ∷ []))
unfolding differences_of
tells-joined text f g e = record { all = _; reads = e; context = refl; consistent = λ m k. omega (arith, k.0) }

reads-twice : read narrow constant_twice ≡ taken (record { rank = 1; ledger = ledger_of (constant 1 ∷ constant 1 ∷ []) [] 0 0; clause = clause_of [] [] })
unfolding constant_twice bytes read read_lines lines_of lines_from digit fields is_listed listed_as size_of entry_of rank_of put_context put_clause put first_failing is_nowhere non_digit legible known sized ranked room named_by table_of no_row refers rows_agree patterns_agree agrees tests_of first_fault
reads-twice = refl

reads-twice-joined : read narrow constant_twice_joined ≡ taken (record { rank = 2; ledger = ledger_of (constant 1 ∷ constant 1 ∷ []) (same 0 1 ∷ []) 1 0; clause = clause_of [] [] })
unfolding constant_twice_joined bytes read read_lines lines_of lines_from digit fields is_listed listed_as size_of entry_of rank_of put_context put_clause put first_failing is_nowhere non_digit legible known sized ranked room named_by table_of no_row refers rows_agree patterns_agree agrees tests_of first_fault
reads-twice-joined = refl

reads_two : read narrow two_constants ≡ taken (record { rank = 1; ledger = ledger_of (constant 1 ∷ constant 2 ∷ []) [] 0 0; clause = clause_of [] [] })
unfolding two_constants bytes read read_lines lines_of lines_from digit fields is_listed listed_as size_of entry_of rank_of put_context put_clause put first_failing is_nowhere non_digit legible known sized ranked room named_by table_of no_row refers rows_agree patterns_agree agrees tests_of first_fault
reads_two = refl

reads-two-joined : read narrow two_constants_joined ≡ taken (record { rank = 2; ledger = ledger_of (constant 1 ∷ constant 2 ∷ []) (same 0 1 ∷ []) 1 0; clause = clause_of [] [] })
unfolding two_constants_joined bytes read read_lines lines_of lines_from digit fields is_listed listed_as size_of entry_of rank_of put_context put_clause put first_failing is_nowhere non_digit legible known sized ranked room named_by table_of no_row refers rows_agree patterns_agree agrees tests_of first_fault
reads-two-joined = refl

-- each row of the constant a twice stands for a
constant-term : (i : ℕ) → i < 2 → term_at (constant 1 ∷ constant 1 ∷ []) i ≡ node 1 stop
unfolding terms grow pick
constant-term zero h = refl
constant-term (suc zero) h = refl
constant-term (suc (suc i)) h = absurd (omega arith)

twice-alike : Alike (stating (constant 1 ∷ constant 1 ∷ []) []) (stating (constant 1 ∷ constant 1 ∷ []) (same 0 1 ∷ []))
unfolding differences_of
twice-alike =
    record {
      equal = λ i j h k. (λ _. rw (constant-term i h, constant-term j k) reflexive, λ _. rw (constant-term i h, constant-term j k) reflexive);
      apart = λ i j h k. (λ w. absurd (omega (arith, w.1)), λ w. absurd (omega (arith, w.1)));
    }

-- gives texts back as they are: the constant a twice, with and without the equation of its two rows
pub no-copied : (n : Normaliser) → Gives n constant_twice constant_twice → Gives n constant_twice_joined constant_twice_joined → KeepsMeaning n → ⊥
unfolding constant_twice constant_twice_joined bytes
no-copied n g h m =
    let e : constant_twice ≡ constant_twice_joined =
    (m.agree constant_twice constant_twice_joined constant_twice constant_twice_joined _ _ (tells-plain constant_twice 1 1 reads-twice) (tells-joined constant_twice_joined 1 1 reads-twice-joined) refl g h).1 twice-alike in
    omega (arith, ap length e)

two-fit : Fit (stating (constant 1 ∷ constant 2 ∷ []) [])
two-fit = (read-formed narrow two_constants _ reads_two).fit

two-apart : EqualIn (stating (constant 1 ∷ constant 2 ∷ []) []) (term_at (constant 1 ∷ constant 2 ∷ []) 0) (term_at (constant 1 ∷ constant 2 ∷ []) 1) → ⊥
unfolding equations_of close rounds round rows_pass row_pass stated_pass upto unite_if agree unite count move total same_list
two-apart d =
    let c : Context = stating (constant 1 ∷ constant 2 ∷ []) [] in
    let e : ◌≡◌ {A = ℕ} 0 1 = (model-rows c two-fit (rep_of c) (closing-represents c two-fit) 0 1 (omega arith) (omega arith)).0 d in
    omega arith

-- a text that is given without a change of the space, whatever was in it, is empty
unchanged-empty : (n : Normaliser) (s u : List ℕ) → ((lent : List ℕ) → (n s lent).1 ≡ lent) → Gives n s u → u ≡ []
unchanged-empty n s u still g = go u (front 0 ∙ sym (front 1))
  where
    front : (b : ℕ) → replicate (length u) b ≡ u
    front b =
        let lent : List ℕ = replicate (length u) b in
        let long : length lent ≡ length u = length-replicate (length u) b in
        let e : n s lent ≡ (wrote (length u), u ++ drop (length u) lent) = g lent (omega arith) in
        let f : lent ≡ u ++ drop (length u) lent = sym (still lent) ∙ ap (λ (x : Written × List ℕ). x.1) e in
        sym (take_all (length u) lent (omega arith)) ∙ ap (take (length u)) f ∙ take_at u (drop (length u) lent) (length u) refl

    go : (v : List ℕ) → ◌≡◌ {A = List ℕ} (replicate (length v) 0) (replicate (length v) 1) → v ≡ []
    go [] e = refl
    go (x ∷ v) e = absurd (let z : ◌≡◌ {A = ℕ} 0 1 = cc in omega arith)

-- leaves the space as it was, whatever it answers: rows a and b, with and without their equation
pub no-silent : (n : Normaliser) → ((lent : List ℕ) → (n two_constants lent).1 ≡ lent) → ((lent : List ℕ) → (n two_constants_joined lent).1 ≡ lent) → KeepsMeaning n → ⊥
unfolding equations_of differences_of
no-silent n still still' m = two-apart ((a.equal 0 1 (omega arith) (omega arith)).1 (given (0, omega arith, refl, refl)))
  where
    plain : Tells two_constants (stating (constant 1 ∷ constant 2 ∷ []) [])
    plain = tells-plain two_constants 1 2 reads_two

    joined : Tells two_constants_joined (stating (constant 1 ∷ constant 2 ∷ []) (same 0 1 ∷ []))
    joined = tells-joined two_constants_joined 1 2 reads-two-joined

    u : (v : List ℕ) × Gives n two_constants v
    u = m.gives two_constants _ plain

    w : (v : List ℕ) × Gives n two_constants_joined v
    w = m.gives two_constants_joined _ joined

    a : Alike (stating (constant 1 ∷ constant 2 ∷ []) []) (stating (constant 1 ∷ constant 2 ∷ []) (same 0 1 ∷ []))
    a =
        (m.agree two_constants two_constants_joined u.0 w.0 _ _ plain joined refl u.1 w.1).0
        (unchanged-empty n two_constants u.0 still u.1 ∙ sym (unchanged-empty n two_constants_joined w.0 still' w.1))

-- answers rightly and writes no byte
unfoldable pub mute : Normaliser
mute text lent = ((normalise text lent).0, lent)

pub no-mute : KeepsMeaning mute → ⊥
unfolding mute
no-mute = no-silent mute (λ lent. refl) (λ lent. refl)

-- refuses the empty text: demand 1
empty-written : (normalise [] []).0 ≡ wrote 0
unfolding normalise normal_on settled leave clash_of clash_from differences_of context_text normal_of joins sorted rows_text statements_text read read_lines lines_of lines_from
empty-written = refl

pub no-unwritten : (n : Normaliser) (r : Refusal) → (n [] []).0 ≡ unwritten r → LeavesRightly n → ⊥
no-unwritten n r h d =
    let w : Writes narrow [] [] (unwritten r) [] = (d.refuses [] [] r).0 h in
    let e : unwritten r ≡ wrote 0 = (writes_one narrow [] [] (unwritten r) (normalise [] []).0 [] (normalise [] []).1 w (normalise-writes [] [])).0 ∙ empty-written in
    let z : ◌≡◌ {A = ℕ} 0 1 = cc in
    omega arith

-- ---- a closing of one round: demand 2, on f applied up to five times

unfoldable pub hasty_rep : Context → ℕ → ℕ
hasty_rep c = rep_at (round c.rows (equations c) (count (length c.rows) 0))

unfoldable pub hasty_on : Reading → Reply
hasty_on (faulty f) = refused f
hasty_on (taken s) =
    let c : Context = s.ledger.context in
    verdict s.clause.literals (clash_of (hasty_rep c) (differences c))
    (first_by (differ_by c) c.rows (hasty_rep c) (length c.rows) s.clause)

unfoldable pub hasty : Finder
hasty text = hasty_on (read narrow text)

-- the rule x = a, f(a) = a
unfoldable pub five_times : List ℕ
five_times = bytes "01000100\n0101010100\n0101010101\n0101010102\n0101010103\n0101010104\n020300\n020500\n0400\n05000100\n0501010101\n060001\n060201\n"

five-reply : reply_to five_times ≡ breach (0 ∷ [])
unfolding five_times bytes read read_lines lines_of lines_from digit fields is_listed listed_as size_of entry_of rank_of put_context put_clause put first_failing is_nowhere non_digit legible known sized ranked room named_by table_of no_row refers rows_agree patterns_agree agrees tests_of first_fault reply_to reply_on judge verdict clash_of clash_from equations_of differences_of first_by seek try_all or_else lowest breaks all_hold_by holds_by numbers stages number step number_of met is_over held rows_at levels levels_from level_of highest differ_by follows_by same_list variables close rounds round rows_pass row_pass stated_pass upto unite_if agree unite count move total
five-reply = refl

five-hasty : hasty five_times ≡ none
unfolding five_times hasty hasty_on hasty_rep bytes read read_lines lines_of lines_from digit fields is_listed listed_as size_of entry_of rank_of put_context put_clause put first_failing is_nowhere non_digit legible known sized ranked room named_by table_of no_row refers rows_agree patterns_agree agrees tests_of first_fault reply_to reply_on judge verdict clash_of clash_from equations_of differences_of first_by seek try_all or_else lowest breaks all_hold_by holds_by numbers stages number step number_of met is_over held rows_at levels levels_from level_of highest differ_by follows_by same_list variables close rounds round rows_pass row_pass stated_pass upto unite_if agree unite count move total
five-hasty = refl

pub no-hasty : (f : Finder) → f five_times ≡ hasty five_times → FindsFirst f → ⊥
no-hasty f h d =
    let e : none ≡ breach (0 ∷ []) =
    sym (h ∙ five-hasty) ∙ (d five_times (found (0 ∷ []))).1 (subst (Replies narrow five_times) five-reply (reply_to-replies five_times)) in
    let z : ◌≡◌ {A = ℕ} 0 1 = cc in
    omega arith
