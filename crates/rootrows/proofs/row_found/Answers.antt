-- What is held for writing stands for reading where every node may be read and written; else what is found for reading is held too. Then both are kept.
use mathlib.Core.Path.{◌≡◌, subst, ◌∙◌}
use mathlib.Core.Bool.{Bool, true}
use Rattle.model.specs.declared.WalkKind.TheVariants.{Reading, Writing}
use Rattle.model.specs.Compare.{Tables}
use Rattle.pairing.specs.Pairs.{tables_of}
use Rattle.totals.specs.Kept.{is_asked}
use Rattle.rowpairs.specs.RowPairs.{HeldRow}
use Rattle.rootrows.specs.RootRow.{RowLinked}
use Rattle.rootrows.proofs.Rows.{lists-any, row_any}
use Rattle.rootrows.proofs.row_found.Goals.{After-hold_row, After-hold_row-2, Start}
use Rattle.rootrows.proofs.row_found.Goals as goal

-- the tables of the comparison
abbrev tables : Start → Tables
tables s =
    let a = s.args in
    tables_of a.spec_nodes.now a.spec_edges.now a.impl_nodes.now a.impl_edges.now a.root_pairs.now a.leaf_pairs.now

-- its groups are linked, and the root row is there
linked : (s : Start) → RowLinked (tables s) s.args.root_row s.args.links.now
linked s = let k = s.requires.0 in record { inputs = k.ready.plans.inputs; linked = k.ready.plans.linked; row = k.row }

-- what is held for writing
written : (w : After-hold_row) → let a = w.args in
    HeldRow Writing (tables (goal.at.After-hold_row w).Start) a.root_row a.links.now (is_asked a.kept) w.hold_row.new.held
written w =
    let a = w.args in
    subst (λ (b : Bool). HeldRow Writing (tables (goal.at.After-hold_row w).Start) a.root_row a.links.now b w.hold_row.new.held) w.address_asked-asked.ensures w.hold_row.ensures

-- for reading, where every node may be read and written
plainly : (w : After-hold_row) → let a = w.args in a.plain ≡ true
    → HeldRow Reading (tables (goal.at.After-hold_row w).Start) a.root_row a.links.now (is_asked a.kept) w.hold_row.new.held
plainly w e = row_any Reading (lists-any w.requires.0.ready w.args.root_row (w.requires.2 e) Reading Writing) (written w)

-- and else
read : (r : After-hold_row-2) → let a = r.args in
    HeldRow Reading (tables (goal.at.After-hold_row-2 r).Start) a.root_row a.links.now (is_asked a.kept) r.hold_row-2.new.held
read r =
    let a = r.args in
    subst (λ (b : Bool). HeldRow Reading (tables (goal.at.After-hold_row-2 r).Start) a.root_row a.links.now b r.hold_row-2.new.held) r.address_asked-asked.ensures r.hold_row-2.ensures

pub keep_pairs-requires : goal.keep_pairs-requires
keep_pairs-requires c =
    record { tables = tables (goal.at.keep_pairs-requires c).Start; ready = linked (goal.at.keep_pairs-requires c).Start; read = plainly (goal.at.keep_pairs-requires c).After-hold_row c.if-plain.true; written = written (goal.at.keep_pairs-requires c).After-hold_row; room = c.requires.3 }

pub returns-then-plain : goal.returns-then-plain
returns-then-plain c fs p =
    c.keep_pairs.ensures (tables (goal.at.returns-then-plain c).Start) (linked (goal.at.returns-then-plain c).Start) (plainly (goal.at.returns-then-plain c).After-hold_row c.if-plain.true) (written (goal.at.returns-then-plain c).After-hold_row) fs p

pub hold_row-requires-2 : goal.hold_row-requires-2
hold_row-requires-2 c =
    let k = c.requires.0 in
    record {
      ready = k.ready;
      rooms = record { spec = c.hold_row.auto.spec_state ∙ k.rooms.spec; impl = c.hold_row.auto.impl_state ∙ k.rooms.impl; list = c.hold_row.auto.spare ∙ k.rooms.list };
      room = c.requires.1;
      row = k.row;
    }

pub keep_pairs-requires-2 : goal.keep_pairs-requires-2
keep_pairs-requires-2 c =
    record { tables = tables (goal.at.keep_pairs-requires-2 c).Start; ready = linked (goal.at.keep_pairs-requires-2 c).Start; read = read (goal.at.keep_pairs-requires-2 c).After-hold_row-2; written = written (goal.at.keep_pairs-requires-2 c).After-hold_row; room = c.requires.3 }

pub returns : goal.returns
returns c fs p =
    c.keep_pairs-2.ensures (tables (goal.at.returns c).Start) (linked (goal.at.returns c).Start) (read (goal.at.returns c).After-hold_row-2) (written (goal.at.returns c).After-hold_row) fs p
