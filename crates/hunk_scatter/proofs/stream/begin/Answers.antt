use Rattle.std.proofs.Common.{◌≡◌, ℕ, List, [], map, length, replicate, sym, subst, ap, ◌∙◌, arith}
use Rattle.std.proofs.lemmas.List.{length-map}
use Rattle.hunk_files.specs.{Image.declared_bytes, LoadFile.TableEntry, Tables.row_entry}
use Rattle.hunk_grammar.specs.Positions.{open_next}
use Rattle.hunk_scatter.specs.{HeaderBytes.{IsHeaderTable, header_bytes}, HeaderLoaderFields.DeclaredInvariant, BodyReader.state_at, Rows.{entries_of, row_of}}
use Rattle.hunk_scatter.proofs.{HeaderReads.entries-rows, Starting.placed_loading}
use Rattle.hunk_scatter.proofs.stream.begin.Goals as goal

pub returns-clause-begins : goal.returns-clause-begins
returns-clause-begins c = λ table header size.
    let rows = c.args.rows.now in
    let t = entries_of rows in
    let total = declared_bytes t in
    let same = entries-rows t in
    let tabled : DeclaredInvariant (map row_of t) total total c.args.header (header_bytes t) = record {
      is_table = subst IsHeaderTable (sym same) table;
      unplaced = ap (λ (u : List TableEntry). map row_of u) (sym same);
      total_is = ap declared_bytes (sym same);
      within = omega arith;
      counted = header;
      header = ap header_bytes (sym same);
    } in
    let filled : c.fill.new.self ≡ replicate (length c.args.store.now) 0 = c.fill.ensures.after (λ y e. e) in
    let zeros : c.fill.new.self ≡ replicate total 0 = filled ∙ ap (λ (n : ℕ). replicate {A = ℕ} n 0) size in
    let count : c.hunks_of.result ≡ length t = c.hunks_of.ensures (omega (arith, table.most, length-map rows row_entry)) ∙ sym (length-map rows row_entry) in
    let e = c.after_header.ensures in
    placed_loading (map row_of t) rows total total c.args.header (header_bytes t) c.fill.new.self _ tabled (sym same) zeros (e.state ∙ ap (λ (n : ℕ). state_at [] (open_next n n)) count) (omega (arith, e.fed, header)) e.pending
