-- Worked examples, computed.
use Rattle.std.proofs.Common.{rules, arith, ◌<◌, ◌^◌}
use Rattle.std.specs.Prelude.{◌≡◌, ℕ, List, [], ◌∷◌, map, Option, Some, None, true, false, refl}
use Rattle.hunk_blocks.specs.Values.{IsGroup, RelocGroup, BlockBody, BlockValue, Code, Data, Bss, Reloc, End}
use Rattle.hunk_grammar.specs.BlockParts.{Part as parts}
use Rattle.hunk_files.specs.{LoadFile.{IsLoadFile, LoadFileValue, HunkValue}, LoadText.{text, labelled}, Image.image}
use Rattle.hunk_words.specs.{declared.reason.Reason.Reason, Longs.{longs, bytes_of}, Bits.kind}
use Rattle.hunk_words.specs.declared.reason.Reason.TheVariants as reasons
use Rattle.hunk_grammar.specs.Roles.{refuse, Place, InBlock, Role as roles}

block : ℕ → BlockBody → BlockValue
block word body = record { word = word; body = body }

end : BlockValue
unfolding block
end = block 0x3F2 End

hunk : ℕ → ℕ → List BlockValue → HunkValue
hunk word extra blocks = record { entry = record { word = word; extra = extra }; blocks = blocks }

group : ℕ → List ℕ → RelocGroup
group target offsets = record { target = target; offsets = offsets }

example1 : LoadFileValue
unfolding hunk block end
example1 = hunk 1 0 (block 0x3E9 (Code 0 (0x4E754E71 ∷ [])) ∷ end ∷ []) ∷ []

example1_bytes :
    bytes_of (text example1)
    ≡ 0 ∷ 0 ∷ 3 ∷ 0xF3 ∷ 0 ∷ 0 ∷ 0 ∷ 0 ∷ 0 ∷ 0 ∷ 0 ∷ 1 ∷ 0 ∷ 0 ∷ 0 ∷ 0 ∷ 0 ∷ 0 ∷ 0 ∷ 0 ∷ 0 ∷ 0 ∷ 0 ∷ 1
    ∷ 0 ∷ 0 ∷ 3 ∷ 0xE9 ∷ 0 ∷ 0 ∷ 0 ∷ 1 ∷ 0x4E ∷ 0x75 ∷ 0x4E ∷ 0x71 ∷ 0 ∷ 0 ∷ 3 ∷ 0xF2 ∷ []
unfolding example1 labelled bytes_of
example1_bytes = refl

example1_longs : longs (bytes_of (text example1)) ≡ text example1
unfolding example1 labelled bytes_of
example1_longs = refl

example2 : LoadFileValue
unfolding hunk block end group
example2 =
    hunk 2 0 (block 0x3E9 (Code 0 (0x4EF90000 ∷ 0x00044E71 ∷ [])) ∷ block 0x3EC (Reloc (group 1 (2 ∷ []) ∷ [])) ∷ end ∷ [])
    ∷ hunk 1 0 (block 0x3EA (Data 0 (0x12345678 ∷ [])) ∷ end ∷ [])
    ∷ []

example2_text :
    text example2
    ≡ 0x3F3 ∷ 0 ∷ 2 ∷ 0 ∷ 1 ∷ 2 ∷ 1 ∷ 0x3E9 ∷ 2 ∷ 0x4EF90000 ∷ 0x00044E71 ∷ 0x3EC ∷ 1 ∷ 1 ∷ 2 ∷ 0 ∷ 0x3F2
    ∷ 0x3EA ∷ 1 ∷ 0x12345678 ∷ 0x3F2 ∷ []
unfolding example2 labelled
example2_text = refl

example2_image :
    map (image (0x10000 ∷ 0x20000 ∷ [])) example2
    ≡ (0x4E ∷ 0xF9 ∷ 0 ∷ 2 ∷ 0 ∷ 4 ∷ 0x4E ∷ 0x71 ∷ []) ∷ (0x12 ∷ 0x34 ∷ 0x56 ∷ 0x78 ∷ []) ∷ []
unfolding example2 bytes_of
example2_image = refl

example5 : LoadFileValue
unfolding hunk block end group
example5 =
    hunk 1 0 (block 0x3E9 (Code 0 (0x10 ∷ [])) ∷ block 0x3EC (Reloc (group 0 (0 ∷ []) ∷ group 1 (0 ∷ []) ∷ [])) ∷ end ∷ [])
    ∷ hunk 1 0 (block 0x3EB (Bss 1) ∷ end ∷ [])
    ∷ []

example5_text :
    text example5
    ≡ 0x3F3 ∷ 0 ∷ 2 ∷ 0 ∷ 1 ∷ 1 ∷ 1 ∷ 0x3E9 ∷ 1 ∷ 0x10 ∷ 0x3EC ∷ 1 ∷ 0 ∷ 0 ∷ 1 ∷ 1 ∷ 0 ∷ 0 ∷ 0x3F2 ∷ 0x3EB ∷ 1 ∷ 0x3F2 ∷ []
unfolding example5 labelled
example5_text = refl

example5_image : map (image (0x100 ∷ 0x200 ∷ [])) example5 ≡ (0 ∷ 0 ∷ 3 ∷ 0x10 ∷ []) ∷ (0 ∷ 0 ∷ 0 ∷ 0 ∷ []) ∷ []
unfolding example5 bytes_of
example5_image = refl

example6 : List ℕ → LoadFileValue
unfolding hunk block end group
example6 offsets =
    hunk 2 0 (block 0x3E9 (Code 0 (0x0000FFFF ∷ 0xFFFF0000 ∷ [])) ∷ block 0x3EC (Reloc (group 0 offsets ∷ [])) ∷ end ∷ []) ∷ []

example6_image : map (image (1 ∷ [])) (example6 (0 ∷ 2 ∷ [])) ≡ (0 ∷ 1 ∷ 0 ∷ 1 ∷ 0 ∷ 0 ∷ 0 ∷ 0 ∷ []) ∷ []
unfolding example6 bytes_of
example6_image = refl

example6_image_other_way : map (image (1 ∷ [])) (example6 (2 ∷ 0 ∷ [])) ≡ (0 ∷ 0 ∷ 0 ∷ 1 ∷ 0 ∷ 0 ∷ 0 ∷ 0 ∷ []) ∷ []
unfolding example6 bytes_of
example6_image_other_way = refl

example8 : LoadFileValue
unfolding hunk block end
example8 =
    hunk 0xC0000002 0x10004 (block 0x3E9 (Code 0 (0x4E714E71 ∷ 0x4E754E71 ∷ [])) ∷ end ∷ [])
    ∷ hunk 1 0 (block 0x3EB (Bss 1) ∷ end ∷ [])
    ∷ []

example8_text :
    text example8
    ≡ 0x3F3 ∷ 0 ∷ 2 ∷ 0 ∷ 1 ∷ 0xC0000002 ∷ 0x10004 ∷ 1 ∷ 0x3E9 ∷ 2 ∷ 0x4E714E71 ∷ 0x4E754E71 ∷ 0x3F2 ∷ 0x3EB ∷ 1 ∷ 0x3F2 ∷ []
unfolding example8 labelled
example8_text = refl

-- ---- refusals

place : ℕ → ℕ → Place
place hunks longs = record { hunks = hunks; longs = longs; has_content = true }

early : Place
early = record { hunks = 1; longs = 1; has_content = false }

example11 : (refuse (InBlock (place 1 2) parts.Offset) 5 ≡ Some reasons.BadOffset) × (refuse (InBlock (place 1 2) parts.Offset) 4 ≡ None) × (refuse (InBlock (place 1 2) parts.Target) 1 ≡ Some reasons.BadTarget)
unfolding place
example11 = (refl, refl, refl)

example16 : (refuse (roles.LastHunk 2) 0 ≡ Some reasons.LastHunk) × (refuse roles.TableSize 0 ≡ Some reasons.NoHunks) × (refuse roles.TableSize 0x10001 ≡ Some reasons.TooManyHunks)
example16 = (refl, refl, refl)

-- the answers to a block word before the content block, and after it
first : ℕ → Option Reason
unfolding early kind
first w = refuse (InBlock early parts.BlockWord) w

later : ℕ → Option Reason
unfolding place kind
later w = refuse (InBlock (place 1 1) parts.BlockWord) w

example23_first :
    map first (0xC00003E9 ∷ 0x200003E9 ∷ 0x400003E9 ∷ 0x3EC ∷ 0x3F2 ∷ [])
    ≡ Some reasons.BothBits ∷ None ∷ None ∷ Some reasons.BeforeContent ∷ Some reasons.NoContent ∷ []
unfolding first
example23_first = refl

example23_later :
    map later (0x3F5 ∷ 0x3F6 ∷ 0x3FC ∷ 0x3EF ∷ 0x3E7 ∷ 0x3F4 ∷ 0x3E9 ∷ 0x3FA ∷ 0x3F7 ∷ 0x200004D2 ∷ 0x200003F4 ∷ [])
    ≡ Some reasons.Overlay ∷ Some reasons.Break ∷ Some reasons.ShortReloc ∷ Some reasons.NotInLoadFile ∷ Some reasons.Misplaced
    ∷ Some reasons.UnknownBlock ∷ Some reasons.SecondContent ∷ Some reasons.Library ∷ Some reasons.ShortReloc ∷ None ∷ None ∷ []
unfolding later
example23_later = refl

example23_header :
    map (refuse roles.FirstLong) (0x3E7 ∷ 0x3FA ∷ 0x3F2 ∷ 0x3F3 ∷ [])
    ≡ Some reasons.IsObject ∷ Some reasons.Library ∷ Some reasons.NotLoadFile ∷ None ∷ []
example23_header = refl

example23_size : (refuse (InBlock early parts.ContentSize) 2 ≡ Some reasons.ContentTooLong) × (refuse (InBlock early parts.ContentSize) 0x80000001 ≡ None)
unfolding early
example23_size = (refl, refl)

one_offset : (target : ℕ) → target < 2 ^ 32 → IsGroup (group target (0 ∷ []))
unfolding group
one_offset target h = record { some = λ e. cc; target = h; offsets = (omega arith, (omega arith, tt)) }

example1_is_load_file : IsLoadFile example1
unfolding example1 kind
example1_is_load_file = search rules

example5_is_load_file : IsLoadFile example5
unfolding example5 kind
example5_is_load_file = search rules
