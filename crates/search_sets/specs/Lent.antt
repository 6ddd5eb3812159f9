-- What the steps about symbols ask and answer, of the runs that are lent to them as one struct: the words of `Rising` and `Sinking` over it.
-- Assumes nothing.
use Rattle.std.specs.Prelude.{Bool, List, ℕ}
use Rattle.search_sets.specs.Keeps.{Setting}
use Rattle.search_sets.specs.Rising.{RowsOf as RowsOfOver, Symbol as SymbolOver, PatternAsk as PatternAskOver, RowAsk as RowAskOver, SameHead as SameHeadOver, HeadAsk as HeadAskOver, ArgAsk as ArgAskOver, FitsIn as FitsInOver, Joins as JoinsOver, Gathered as GatheredOver, KnownArgs as KnownArgsOver, FixedArgs as FixedArgsOver, KnownSymbol as KnownSymbolOver}
use Rattle.search_sets.specs.Sinking.{SinkAsk as SinkAskOver, SinkRowAsk as SinkRowAskOver, TableRow as TableRowOver, AddAsk as AddAskOver, AddArgAsk as AddArgAskOver, AddsArg as AddsArgOver, AddsArgs as AddsArgsOver, Sees as SeesOver, Seen as SeenOver, Looked as LookedOver, CutArgAsk as CutArgAskOver, CutsArg as CutsArgOver, CutsArgs as CutsArgsOver, CutsAsk as CutsAskOver, Inside as InsideOver, InsideBy as InsideByOver, Enters as EntersOver}
use Rattle.search_sets.specs.declared.rising.Symbols.{Symbols}

abbrev pub RowsOf : Symbols → Setting → Type 0
RowsOf s = RowsOfOver s.rows.now s.table.now s.patterns.now

abbrev pub Symbol : Symbols → ℕ → ℕ → Type 0
Symbol s size p = SymbolOver s.rows.now s.table.now s.patterns.now size s.width p

abbrev pub PatternAsk : Symbols → ℕ → ℕ → Type 0
PatternAsk s size p = PatternAskOver s.patterns.now size s.width p

abbrev pub RowAsk : Symbols → ℕ → ℕ → ℕ → Type 0
RowAsk s size p i = RowAskOver s.rows.now s.table.now s.patterns.now size s.width p i

abbrev pub SameHead : Symbols → ℕ → ℕ → Type 0
SameHead s p i = SameHeadOver s.rows.now s.patterns.now p i

abbrev pub HeadAsk : Symbols → ℕ → ℕ → ℕ → Type 0
HeadAsk s size p i = HeadAskOver s.rows.now s.table.now s.patterns.now size s.width p i

abbrev pub ArgAsk : Symbols → ℕ → ℕ → ℕ → ℕ → Type 0
ArgAsk s size p i k = ArgAskOver s.rows.now s.table.now s.patterns.now size s.width p i k

abbrev pub FitsIn : Symbols → List ℕ → ℕ → ℕ → Type 0
FitsIn s sets p i = FitsInOver s.rows.now s.table.now s.patterns.now sets s.width p i

abbrev pub Joins : Symbols → List ℕ → List ℕ → ℕ → ℕ → Bool → Type 0
Joins s old new p i r = JoinsOver s.rows.now s.table.now s.patterns.now old new s.width p i r

abbrev pub Gathered : Symbols → List ℕ → List ℕ → ℕ → ℕ → Bool → Type 0
Gathered s old new p n r = GatheredOver s.rows.now s.table.now s.patterns.now old new s.width p n r

abbrev pub KnownArgs : Symbols → List ℕ → ℕ → ℕ → Bool → Type 0
KnownArgs s sets p n r = KnownArgsOver s.patterns.now sets s.width p n r

abbrev pub FixedArgs : Symbols → List ℕ → ℕ → ℕ → Bool → Type 0
FixedArgs s sets p n r = FixedArgsOver s.patterns.now sets s.width p n r

abbrev pub KnownSymbol : Symbols → List ℕ → ℕ → Type 0
KnownSymbol s sets p = KnownSymbolOver s.rows.now s.table.now s.patterns.now sets s.width p

abbrev pub SinkAsk : Symbols → ℕ → ℕ → ℕ → Type 0
SinkAsk s size more p = SinkAskOver s.rows.now s.table.now s.patterns.now size more s.width p

abbrev pub SinkRowAsk : Symbols → ℕ → ℕ → ℕ → ℕ → Type 0
SinkRowAsk s size more p i = SinkRowAskOver s.rows.now s.table.now s.patterns.now size more s.width p i

abbrev pub TableRow : Symbols → List ℕ → ℕ → ℕ → Type 0
TableRow s sets p i = TableRowOver s.rows.now s.table.now s.patterns.now sets s.width p i

abbrev pub AddAsk : Symbols → ℕ → ℕ → Type 0
AddAsk s more i = AddAskOver s.rows.now s.table.now more s.width i

abbrev pub AddArgAsk : Symbols → ℕ → ℕ → ℕ → Type 0
AddArgAsk s more i k = AddArgAskOver s.rows.now s.table.now more s.width i k

abbrev pub AddsArg : Symbols → List ℕ → List ℕ → ℕ → ℕ → Type 0
AddsArg s old new i k = AddsArgOver s.rows.now s.table.now old new s.width i k

abbrev pub AddsArgs : Symbols → List ℕ → List ℕ → ℕ → ℕ → Type 0
AddsArgs s old new i n = AddsArgsOver s.rows.now s.table.now old new s.width i n

abbrev pub Sees : Symbols → List ℕ → List ℕ → List ℕ → ℕ → ℕ → Bool → Type 0
Sees s sets old new p i r = SeesOver s.rows.now s.table.now s.patterns.now sets old new s.width p i r

abbrev pub Seen : Symbols → List ℕ → List ℕ → List ℕ → ℕ → ℕ → Bool → Type 0
Seen s sets old new p n r = SeenOver s.rows.now s.table.now s.patterns.now sets old new s.width p n r

abbrev pub Looked : Symbols → List ℕ → List ℕ → List ℕ → ℕ → Bool → Type 0
Looked s sets old new p r = LookedOver s.rows.now s.table.now s.patterns.now sets old new s.width p r

abbrev pub CutArgAsk : Symbols → ℕ → ℕ → ℕ → ℕ → Type 0
CutArgAsk s size more p k = CutArgAskOver s.patterns.now size more s.width p k

abbrev pub CutsArg : Symbols → List ℕ → List ℕ → List ℕ → ℕ → ℕ → Type 0
CutsArg s more old new p k = CutsArgOver s.patterns.now more old new s.width p k

abbrev pub CutsArgs : Symbols → List ℕ → List ℕ → List ℕ → ℕ → ℕ → Type 0
CutsArgs s more old new p n = CutsArgsOver s.patterns.now more old new s.width p n

abbrev pub CutsAsk : Symbols → List ℕ → ℕ → ℕ → Type 0
CutsAsk s sets more p = CutsAskOver s.patterns.now sets more s.width p

abbrev pub Inside : Symbols → List ℕ → ℕ → ℕ → Type 0
Inside s sets more p = InsideOver s.rows.now s.table.now s.patterns.now sets more s.width p

abbrev pub InsideBy : Symbols → List ℕ → ℕ → Bool → Type 0
InsideBy s sets p r = InsideByOver s.patterns.now sets s.width p r

abbrev pub Enters : Symbols → List ℕ → ℕ → ℕ → Bool → Type 0
Enters s sets more p r = EntersOver s.rows.now s.table.now s.patterns.now sets more s.width p r
