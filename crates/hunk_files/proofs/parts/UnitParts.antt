-- The part of an object file after longwords that were read.
use Rattle.std.proofs.Common.{◌≡◌, ℕ, zero, suc, ◌-◌, ◌^◌, ◌<◌, ◌≤◌, List, [], ◌∷◌, ◌++◌, length, take, refl, sym, ap, ap₂, ◌∙◌, length-append, arith, Option, Some, None}
use Rattle.std.specs.Option.{SomeIff}
use Rattle.std.proofs.Math.Seq.{take-append_seam}
use Rattle.hunk_words.specs.Longs.{IsLong}
use Rattle.hunk_blocks.specs.Values.{IsPayload}
use Rattle.hunk_blocks.proofs.Lists.{All-append}
use Rattle.hunk_blocks.specs.BlockSteps.{part_of}
use Rattle.hunk_files.specs.FileParts.{IsUnitPart}
use Rattle.hunk_grammar.specs.declared.object_position.WordPlace.TheVariants.{BeforeUnits, BetweenHunks, InHunk}
use Rattle.hunk_grammar.specs.ObjectRoles.{ObjectRole, WordAt, Within}
use Rattle.hunk_files.specs.ObjectFile.{unit_header, unit_word, object_text}
use Rattle.hunk_files.specs.FileParts.{part_by}
use Rattle.hunk_files.specs.declared.part.Part.TheVariants as parts
use Rattle.hunk_files.proofs.object_walk.ObjectProgress.{Counted, AfterUnits, InOpen, inside_open, word_open, zeros, zeros_fit}
use Rattle.hunk_files.proofs.object_walk.OneObjectFault.{ObjectState, AtWord, AtCount, InName, InBlock}

pub part_is : (number : ℕ) (hunk : Option ℕ) (begun whole : ℕ) → number ≡ begun - 1 → SomeIff hunk (1 ≤ whole) (whole - 1) → parts.Unit number hunk ≡ part_by begun whole
part_is number None begun zero e h = ap (λ (n : ℕ). parts.Unit n None) e
part_is number None begun (suc whole) e h = absurd (h (omega arith))
part_is number (Some hunk) begun zero e h = absurd (omega (arith, h.0))
part_is number (Some hunk) begun (suc whole) e h = ap₂ (λ (n m : ℕ). parts.Unit n (Some m)) e (omega (arith, h.1))

open_part : (begun whole : ℕ) (ws : List ℕ) (role : ObjectRole) → InOpen begun whole ws role → IsUnitPart ws (part_by begun whole)
open_part begun zero ws role h = absurd (omega (arith, h.whole_are))
open_part begun (suc whole) ws role h =
    record {
      units = h.units;
      unit_open = h.unit_open;
      front = h.front;
      role = role;
      are_units = h.are_units;
      is_unit = h.is_unit;
      split = h.split;
      goes_on = h.goes_on;
      unit_is = omega (arith, h.begun_are);
      hunk_is = omega (arith, h.whole_are);
    }

header_part : (begun whole : ℕ) (ws tail name : List ℕ) (count : ℕ) → AfterUnits begun whole ws tail → IsPayload (2 ^ 24) name → take (suc count) (unit_header name) ≡ tail → suc count < length (unit_header name) → IsUnitPart ws (part_by begun whole)
header_part begun (suc whole) ws tail name count h is e short = absurd (omega (arith, h.none_whole))
header_part begun zero ws tail name count h is e short =
    record {
      units = h.units;
      name = name;
      count = suc count;
      are_units = h.are_units;
      is_name = is;
      split = h.words_are ∙ ap (λ xs. object_text h.units ++ xs) (sym e);
      begun = λ none. absurd (omega (arith, none));
      not_whole = short;
      unit_is = omega (arith, h.begun_are);
    }

start_part : (begun whole : ℕ) (ws : List ℕ) → ws ≡ [] → begun ≡ 0 → whole ≡ 0 → IsUnitPart ws (part_by begun whole)
start_part begun (suc whole) ws e b w = absurd (omega (arith, w))
start_part begun zero ws e b w =
    record {
      units = [];
      name = [];
      count = 0;
      are_units = tt;
      is_name = (omega arith, tt);
      split = e;
      begun = λ none. refl;
      not_whole = omega arith;
      unit_is = omega (arith, b);
    }

name_part : (owed begun whole : ℕ) (ws : List ℕ) → Counted (InName owed) begun whole ws → IsUnitPart ws (part_by begun whole)
name_part owed begun whole ws h =
    let z = zeros_fit owed in
    let all : List ℕ = h.name ++ 0 ∷ zeros owed in
    let same : length all ≡ h.count = omega (arith, h.counts, z.1, length-append h.name (0 ∷ zeros owed)) in
    header_part begun whole ws (unit_word ∷ h.count ∷ h.name) all (suc (length h.name)) h.after
    (omega (arith, same, h.few), All-append IsLong h.name (0 ∷ zeros owed) h.name_fits (omega arith, z.0))
    (ap₂ (λ (n : ℕ) (xs : List ℕ). unit_word ∷ n ∷ xs) same (take-append_seam h.name (0 ∷ zeros owed)))
    (omega (arith, same, h.counts))

pub part_counted : (s : ObjectState) (begun whole : ℕ) (ws : List ℕ) → Counted s begun whole ws → IsUnitPart ws (part_by begun whole)
part_counted (AtWord BeforeUnits) begun whole ws h = start_part begun whole ws h.0 h.1 h.2
part_counted (AtWord BetweenHunks) begun whole ws h = open_part begun whole ws (WordAt BetweenHunks) (word_open BetweenHunks begun whole ws h)
part_counted (AtWord (InHunk has)) begun whole ws h = open_part begun whole ws (WordAt (InHunk has)) (word_open (InHunk has) begun whole ws h)
part_counted AtCount begun whole ws h = header_part begun whole ws (unit_word ∷ []) [] 0 h (omega arith, tt) refl (omega arith)
part_counted (InName owed) begun whole ws h = name_part owed begun whole ws h
part_counted (InBlock next x) begun whole ws h = open_part begun whole ws (Within (part_of x)) (inside_open next x begun whole ws h)
