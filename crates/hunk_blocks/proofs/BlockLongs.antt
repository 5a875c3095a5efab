-- No part of a block after its word is refused, and the longwords of a block are longs.
use Rattle.std.proofs.Common.{rules, ◌≡◌, ◌≢◌, ℕ, ◌^◌, List, [], ◌∷◌, ◌++◌, refl, arith, Option, None}
use Rattle.std.proofs.lemmas.Grind.{common_steps}
use Rattle.std.specs.List.{flat_map, AllByRecursion}
use Rattle.hunk_words.specs.Longs.{IsLong, AreLongs}
use Rattle.hunk_grammar.specs.declared.ext_shape.ExtShape.{ExtShape}
use Rattle.hunk_grammar.specs.BlockParts.{Part, Part as parts}
use Rattle.hunk_blocks.specs.Parts.{each, group_parts, symbol_parts, ext_parts, ext_parts_by, body_parts, block_text, longs_of}
use Rattle.hunk_grammar.specs.Modes.{refuse_inside}
use Rattle.hunk_blocks.specs.Values.{RelocGroup, SymbolEntry, ExtEntry, BlockBody, BlockValue, IsBlock, FitsWord, IsPayload, IsGroup, IsSymbolEntry, IsExtEntry}
use Rattle.hunk_blocks.proofs.{ExtLaws.end_passes, Lists.All-append}

abbrev pub PartPasses : Part × ℕ → Type 0
PartPasses p = (p.0 ≢ parts.BlockWord) × (refuse_inside p.0 p.1 ≡ None) × IsLong p.1

abbrev pub PartsPass : List (Part × ℕ) → Type 0
PartsPass ps = AllByRecursion PartPasses ps

each_passes : (part : Part) → part ≢ parts.BlockWord → ((w : ℕ) → refuse_inside part w ≡ None) → (ws : List ℕ) → AreLongs ws → PartsPass (each part ws)
each_passes part ne ok [] h = tt
each_passes part ne ok (w ∷ ws) h = ((ne, ok w, h.0), each_passes part ne ok ws h.1)

list_passes : {A : Type 0} (Is : A → Type 0) (f : A → List (Part × ℕ)) → ((x : A) → Is x → PartsPass (f x)) → (end : Part × ℕ) → PartPasses end → (xs : List A) → AllByRecursion Is xs → PartsPass (flat_map f xs ++ end ∷ [])
list_passes Is f one end last xs h = All-append PartPasses (flat_map f xs) (end ∷ []) (go xs h) (last, tt)
  where
    go : (ys : List _) → AllByRecursion Is ys → PartsPass (flat_map f ys)
    go [] h = tt
    go (y ∷ ys) h = All-append PartPasses (f y) (flat_map f ys) (one y h.0) (go ys h.1)

payload_passes : (ws : List ℕ) → AreLongs ws → PartsPass (each parts.Payload ws)
payload_passes ws h = each_passes parts.Payload (λ e. cc) (λ w. refl) ws h

offsets_pass : (ws : List ℕ) → AreLongs ws → PartsPass (each parts.Offset ws)
offsets_pass ws h = each_passes parts.Offset (λ e. cc) (λ w. refl) ws h

name_passes : (ws : List ℕ) → AreLongs ws → PartsPass (each parts.EntryName ws)
name_passes ws h = each_passes parts.EntryName (λ e. cc) (λ w. refl) ws h

group_passes : (g : RelocGroup) → IsGroup g → PartsPass (group_parts g)
group_passes g h = (((λ e. cc), refl, h.offsets.0), (((λ e. cc), refl, h.target), offsets_pass g.offsets h.offsets.1))

symbol_passes : (s : SymbolEntry) → IsSymbolEntry s → PartsPass (symbol_parts s)
symbol_passes s h = grind (arith, common_steps, name_passes)

after_passes : (s : Option ExtShape) (e : ExtEntry) → IsLong e.value → IsPayload (2 ^ 32) e.offsets → PartsPass (ext_parts_by s e)
after_passes s e v o = search (rules, offsets_pass)

entry_passes : (e : ExtEntry) → IsExtEntry e → PartsPass (ext_parts e)
entry_passes e h = grind (arith, common_steps, name_passes, after_passes)

pub body_passes : (word : ℕ) (b : BlockBody) → FitsWord word b → PartsPass (body_parts b)
body_passes word b h = search (rules, payload_passes, list_passes, group_passes, entry_passes, end_passes, symbol_passes)

pub block_longs : (b : BlockValue) → IsBlock b → AreLongs (block_text b)
block_longs b h = (h.word, longs (body_parts b.body) (body_passes b.word b.body h.body))
  where
    longs : (ps : List (Part × ℕ)) → PartsPass ps → AreLongs (longs_of ps)
    longs [] k = tt
    longs (p ∷ ps) k = (k.0.2, longs ps k.1)
