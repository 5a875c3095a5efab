-- The part of a load file that the next longword is of.
use Rattle.std.proofs.Common.{rules, ◌≡◌, ℕ, ◌*◌, ◌/◌, true, false, List, [], ◌++◌, length, sym, ap, subst, ◌∙◌, append_assoc, append-nil, length-append, arith}
use Rattle.std.proofs.Math.Seq.{take-append_seam}
use Rattle.std.proofs.lemmas.List.{length-map}
use Rattle.hunk_words.specs.{Carriers.Supply, Longs.{longs, bytes_of}, declared.fault.Fault.Fault}
use Rattle.hunk_words.proofs.LongLaws.{longs-bytes_of, length-bytes_of}
use Rattle.hunk_grammar.specs.Positions.{is_done, is_after_header}
use Rattle.hunk_grammar.specs.declared.file_kind.Sniff.TheVariants as sniffs
use Rattle.hunk_files.specs.{FileParts.IsPartAt, FileSteps.{Progress, More}}
use Rattle.hunk_files.specs.{ReaderPosition.IsAfterHeader, WordsRead.HasRead, declared.row.Row.Row, declared.part.Part.Part}
use Rattle.hunk_files.specs.declared.part.Part.TheVariants as parts
use Rattle.hunk_files.proofs.{parts.LoadParts.part_of, parts.TextPlaces.read_part}
use Rattle.hunk_scatter.specs.{LoadOutcomes.IsReadFault, LoadRefusals.IsFaultIn}
use Rattle.hunk_scatter.specs.{BodyLoaderFields.StandsAfter, BodyReader.state_of, HeaderLoaderFields.HeaderReading}
use Rattle.hunk_scatter.specs.{declared.header_state.HeaderState.HeaderState, declared.store.BodyState.BodyState}
use Rattle.hunk_scatter.proofs.{HeaderReads.{here, read_here, in_header}, HeaderSteps.IsInHeader}
use Rattle.hunk_scatter.proofs.{OneByte.{Going, going}, Outcomes.longs_are, ReadWords.read_longs}

pub part_after : (ws more bytes : List ℕ) (p : Progress) (at : ℕ) (part : Part) → HasRead ws (More p) → longs bytes ≡ ws ++ more → at / 4 ≡ length ws → part ≡ part_of p → IsPartAt sniffs.Load bytes at part
part_after ws more bytes p at part read spells count is = search (rules, take-append_seam, read_part)

-- ---- the header

pub part_in_header : (p : Progress) → IsInHeader p → parts.Header ≡ part_of p
part_in_header p e = search rules

pub header_next : (budget : ℕ) (rows : List Row) (s : HeaderState) (pending fed : List ℕ) → HeaderReading budget rows s pending fed → is_after_header s.position ≡ false →
    IsPartAt sniffs.Load fed (4 * (length fed / 4)) parts.Header
header_next budget rows s pending fed r more =
    let h = r.has_read in
    part_after r.ws [] fed (here budget rows s r.ws h more) _ parts.Header (read_here budget rows s r.ws h more) (longs_are r.ws h.next pending fed h.read r.few r.spelled ∙ sym (append-nil r.ws))
    (omega (arith, r.few, ap length r.spelled, length-append (bytes_of r.ws) pending, length-bytes_of r.ws))
    (part_in_header (here budget rows s r.ws h more) (in_header budget rows s r.ws h more))

-- ---- a hunk

part_open : (p : Progress) (state : BodyState) → IsAfterHeader (More p) → state_of (More p) ≡ state → parts.Hunk state.hunk ≡ part_of p
part_open p state b e = search rules

-- Where a loader stands, the longword that the rest goes on with is of its hunk.
pub hunk_next : (rows : List Row) (store : List ℕ) (state : BodyState) (pending fed rest : List ℕ) → StandsAfter rows store state pending fed → is_done state.position ≡ false →
    IsPartAt sniffs.Load (fed ++ rest) (4 * (length fed / 4)) (parts.Hunk state.hunk)
hunk_next rows store state pending fed rest r more =
    let g : Going rows store state pending fed = going rows store state pending fed r more in
    part_after g.ws (longs (pending ++ rest)) (fed ++ rest) g.at _ (parts.Hunk state.hunk) g.read
    (ap (λ (bs : List ℕ). longs (bs ++ rest)) g.spelled ∙ ap longs (append_assoc (bytes_of g.ws) pending rest) ∙ longs-bytes_of g.ws (pending ++ rest) (read_longs g.ws (More g.at) g.read))
    (omega (arith, g.few, ap length g.spelled, length-append (bytes_of g.ws) pending, length-bytes_of g.ws))
    (part_open g.at state g.in_body g.state_is)

pub hunk_here : (rows : List Row) (store : List ℕ) (state : BodyState) (pending fed : List ℕ) → StandsAfter rows store state pending fed → is_done state.position ≡ false →
    IsPartAt sniffs.Load fed (4 * (length fed / 4)) (parts.Hunk state.hunk)
hunk_here rows store state pending fed r more =
    subst (λ (bs : List ℕ). IsPartAt sniffs.Load bs (4 * (length fed / 4)) (parts.Hunk state.hunk)) (append-nil fed) (hunk_next rows store state pending fed [] r more)

-- After the last hunk it is their number.
pub hunks_after : (rows : List Row) (store : List ℕ) (state : BodyState) (pending fed : List ℕ) → StandsAfter rows store state pending fed → is_done state.position ≡ true → state.hunk ≡ length rows
hunks_after rows store state pending fed r done = search (rules, length-map)

-- ---- the end of what was read

-- Of the faults of reading, what is cut short alone is one of the file, at the next longword.
pub read_fault_in : (limit : ℕ) (now : Supply) (bytes : List ℕ) (part : Part) (f : Fault) → IsReadFault limit now (length bytes) f → IsPartAt sniffs.Load bytes (4 * (length bytes / 4)) part → IsFaultIn bytes part f
read_fault_in limit now bytes part f h k = search rules
