-- The faults of a block and of a hunk, as faults of what they stand in.
use Rattle.std.proofs.Common.{◌≡◌, ◌≢◌, ℕ, Bool, true, false, ◌||◌, List, [], ◌∷◌, ◌++◌, refl, sym, ap, ap₂, subst, ◌∙◌, append_assoc, arith, None}
use Rattle.std.specs.List.{flat_map, AllByRecursion}
use Rattle.std.proofs.lemmas.List.{map-append}
use Rattle.hunk_words.specs.Bits.{kind}
use Rattle.hunk_grammar.specs.declared.mode.Mode.TheVariants as modes
use Rattle.hunk_blocks.specs.Values.{BlockBody, BlockValue, Bss, IsBlock}
use Rattle.hunk_grammar.specs.BlockParts.{Part, Part as parts}
use Rattle.hunk_blocks.specs.Parts.{block_parts, block_text, body_parts}
use Rattle.hunk_blocks.specs.Faults.{Grammar, words, Expects, blocks}
use Rattle.hunk_blocks.specs.BlockSteps.{BlockNext, Open, Whole, step_inside, begin_body, Follows}
use Rattle.hunk_blocks.proofs.{Admitted.block, BlockText.body_follows, BodyFaults.{end_block, end_is}}
use Rattle.hunk_blocks.proofs.FaultLaws.{Embeds, expects_embedded, embeds_same, relabel, same-labels, words-relabel}
use Rattle.hunk_blocks.proofs.{Lists.All-append, OneBlockFault.part_not_word}
use Rattle.hunk_files.specs.{LoadFile.{standing, AreInOrder}, ObjectFile.ObjectHunk}
use Rattle.hunk_grammar.specs.declared.object_position.WordPlace.{WordPlace}
use Rattle.hunk_grammar.specs.declared.object_position.WordPlace.TheVariants.{BetweenHunks, InHunk}
use Rattle.hunk_grammar.specs.ObjectRoles.{ObjectRole, WordAt, has_content, after_block, object_role_at, refuse_object}
use Rattle.hunk_files.specs.ObjectFault.{object_block_labelled, object_blocks_labelled, blocks_from}
use Rattle.hunk_grammar.specs.Standings.{BlockStanding, Beside, Content, Relocating, Ending, is_content, refuse_standing, standing_of_kind}
use Rattle.hunk_files.proofs.{walk.HunkOrder.{Leads, leads_end, standing_is}, walk.FileText.standings}

-- ---- the rest of a hunk

abbrev pub bss_block : BlockValue
bss_block = block 0x3EB (Bss 0)

bss_is : IsBlock bss_block
unfolding kind
bss_is = record { word = omega arith; bits = refl; body = (refl, omega arith) }

rest_of_hunk : Bool → ObjectHunk
rest_of_hunk true = end_block ∷ []
rest_of_hunk false = bss_block ∷ end_block ∷ []

abbrev Goes : Bool → ObjectHunk → Type 0
Goes has bs = AllByRecursion IsBlock bs × AreInOrder has (standings bs)

rest_goes : (has : Bool) → Goes has (rest_of_hunk has)
unfolding rest_of_hunk
rest_goes true = ((end_is, tt), refl)
rest_goes false = ((bss_is, (end_is, tt)), refl)

-- the rest after a block that may stand here
tail_of : Bool → BlockStanding → ObjectHunk
tail_of has Ending = []
tail_of has s = rest_of_hunk (has || is_content s)

tail_goes : (has : Bool) (b : BlockValue) (s : BlockStanding) → IsBlock b → standing b.body ≡ s → refuse_standing has s ≡ None → Goes has (b ∷ tail_of has s)
unfolding tail_of
tail_goes has b s is e ok = subst (λ (t : BlockStanding). AllByRecursion IsBlock (b ∷ tail_of has s) × AreInOrder has (t ∷ standings (tail_of has s))) (sym e) (go has s ok)
  where
    go : (k : Bool) (t : BlockStanding) → refuse_standing k t ≡ None → AllByRecursion IsBlock (b ∷ tail_of k t) × AreInOrder k (t ∷ standings (tail_of k t))
    go true Beside ok = ((is, (rest_goes true).0), (rest_goes true).1)
    go false Beside ok = ((is, (rest_goes false).0), (rest_goes false).1)
    go true Content ok = absurd cc
    go false Content ok = ((is, (rest_goes true).0), (rest_goes true).1)
    go true Relocating ok = ((is, (rest_goes true).0), (rest_goes true).1)
    go false Relocating ok = absurd cc
    go true Ending ok = ((is, tt), refl)
    go false Ending ok = absurd cc

-- The blocks that may stand at this place.
abbrev pub blocks_at : WordPlace → Grammar BlockValue ObjectRole
blocks_at place =
    record {
      Is = λ b. IsBlock b × (refuse_standing (has_content place) (standing b.body) ≡ None);
      labelled = object_block_labelled place;
      refuse = refuse_object;
    }

block_embeds : (place : WordPlace) → Embeds (blocks_at place) (blocks_from place) []
block_embeds place =
    record {
      into = λ b. b ∷ tail_of (has_content place) (standing b.body);
      role = λ r. r;
      after = λ b. object_blocks_labelled (after_block place (standing b.body)) (tail_of (has_content place) (standing b.body));
      is = λ b h. tail_goes (has_content place) b (standing b.body) h.0 refl h.1;
      labels = λ b h. ap (λ ls. ls ++ object_blocks_labelled (after_block place (standing b.body)) (tail_of (has_content place) (standing b.body))) (sym (same-labels (object_block_labelled place b)));
      refuses = λ r w reason h. h;
    }

-- What is expected of a block is expected of the hunk.
pub expects_block : (place : WordPlace) (before : List ℕ) (role : ObjectRole) → Expects (blocks_at place) before role → Expects (blocks_from place) before role
unfolding block_embeds
expects_block place before role e = expects_embedded (blocks_at place) (blocks_from place) [] (block_embeds place) before role e

-- ---- a block word
-- some block that may stand here
stands_here : (has : Bool) → (b : BlockValue) × IsBlock b × (refuse_standing has (standing b.body) ≡ None)
stands_here true = (end_block, end_is, refl)
stands_here false = (bss_block, bss_is, refl)

pub expects_word : (place : WordPlace) → Expects (blocks_at place) [] (WordAt place)
expects_word place =
    let b = stands_here (has_content place) in
    record { value = b.0; is = (b.1, b.2); done = []; word = b.0.word; more = relabel (object_role_at place) (body_parts b.0.body); labels = refl; begins = refl }

-- ---- after a block word
no_second_word : (n : BlockNext) (ps more : List (Part × ℕ)) (part : Part) (w : ℕ) (end : BlockBody) → Follows n (ps ++ (part, w) ∷ more) (Whole end) → part ≢ parts.BlockWord
no_second_word (Open x) [] more part w end h e = part_not_word x (h.0 ∙ e)
no_second_word (Open x) (p ∷ ps) more part w end h e = no_second_word (step_inside x p.1) ps more part w end h.1 e
no_second_word (Whole b) [] more part w end h e = absurd h
no_second_word (Whole b) (p ∷ ps) more part w end h e = absurd h

module _ (place : WordPlace) (w : ℕ) (ok : refuse_standing (has_content place) (standing_of_kind (kind w)) ≡ None) where
  -- a block with this word may stand here
  may_stand : (b : BlockValue) → IsBlock b → b.word ≡ w → refuse_standing (has_content place) (standing b.body) ≡ None
  may_stand b is e = ap (refuse_standing (has_content place)) (standing_is b.word b.body is.body ∙ ap (λ (v : ℕ). standing_of_kind (kind v)) e) ∙ ok

  pub expects_within : (before : List ℕ) (part : Part) → Expects (blocks modes.Object) (w ∷ before) part → Expects (blocks_at place) (w ∷ before) (object_role_at place part) × (part ≢ parts.BlockWord)
  expects_within before part e = go e.done e.labels e.begins
    where
      go : (done : List (Part × ℕ)) → block_parts e.value ≡ done ++ (part, e.word) ∷ e.more → words done ≡ w ∷ before → Expects (blocks_at place) (w ∷ before) (object_role_at place part) × (part ≢ parts.BlockWord)
      go [] labels begins = absurd cc
      go (d ∷ ds) labels begins =
          let first : e.value.word ≡ w = cc in
          let inside : body_parts e.value.body ≡ ds ++ (part, e.word) ∷ e.more = cc in (
            record {
              value = e.value;
              is = (e.is.0, may_stand e.value e.is.0 first);
              done = relabel (object_role_at place) (d ∷ ds);
              word = e.word;
              more = relabel (object_role_at place) e.more;
              labels = ap (relabel (object_role_at place)) labels ∙ map-append (λ (l : Part × ℕ). (object_role_at place l.0, l.1)) (d ∷ ds) ((part, e.word) ∷ e.more);
              begins = words-relabel (object_role_at place) (d ∷ ds) ∙ begins;
            },
            no_second_word (begin_body (kind e.value.word)) ds e.more part e.word e.value.body (subst (λ (ps : List (Part × ℕ)). Follows (begin_body (kind e.value.word)) ps (Whole e.value.body)) inside (body_follows e.value.word e.value.body e.is.0.body)),
          )
      -- the block word itself

-- ---- after the blocks that were read
-- where the next block word stands
abbrev pub place_past : WordPlace → ObjectHunk → WordPlace
place_past place [] = place
place_past place (b ∷ bs) = place_past (after_block place (standing b.body)) bs

blocks-append : (place : WordPlace) (bs cs : ObjectHunk) → object_blocks_labelled place (bs ++ cs) ≡ object_blocks_labelled place bs ++ object_blocks_labelled (place_past place bs) cs
blocks-append place [] cs = refl
blocks-append place (b ∷ bs) cs =
    ap (λ ls. object_block_labelled place b ++ ls) (blocks-append (after_block place (standing b.body)) bs cs)
    ∙ sym (append_assoc (object_block_labelled place b) (object_blocks_labelled (after_block place (standing b.body)) bs) (object_blocks_labelled (place_past (after_block place (standing b.body)) bs) cs))

pub blocks_words : (place : WordPlace) (bs : ObjectHunk) → words (object_blocks_labelled place bs) ≡ flat_map block_text bs
blocks_words place [] = refl
blocks_words place (b ∷ bs) =
    map-append (λ l. l.1) (object_block_labelled place b) (object_blocks_labelled (after_block place (standing b.body)) bs)
    ∙ ap₂ (λ xs ys. xs ++ ys) (words-relabel (object_role_at place) (block_parts b)) (blocks_words (after_block place (standing b.body)) bs)

-- whether there is a content block then
content_after : (place : WordPlace) (bs : ObjectHunk) (has : Bool) → Leads (has_content place) (standings bs) has → has_content (place_past place bs) ≡ has
content_after place [] has h = h
content_after place (b ∷ bs) has h = content_after (after_block place (standing b.body)) bs has (go (has_content place) (standing b.body) h)
  where
    go : (k : Bool) (s : BlockStanding) → Leads k (s ∷ standings bs) has → Leads (k || is_content s) (standings bs) has
    go true Beside l = l
    go false Beside l = l
    go false Content l = l
    go true Content l = absurd l
    go true Relocating l = l
    go false Relocating l = absurd l
    go true Ending l = absurd l
    go false Ending l = absurd l

-- a hunk that was begun goes on in itself
pub opened : (place : WordPlace) (b : BlockValue) (bs : ObjectHunk) → (has : Bool) × (place_past place (b ∷ bs) ≡ InHunk has)
opened place b [] = (has_content place || is_content (standing b.body), refl)
opened place b (c ∷ bs) = opened (after_block place (standing b.body)) c bs

blocks_embed : (bs : ObjectHunk) (has : Bool) → AllByRecursion IsBlock bs → Leads false (standings bs) has → Embeds (blocks_from (place_past BetweenHunks bs)) (blocks_from BetweenHunks) (object_blocks_labelled BetweenHunks bs)
blocks_embed bs has are leads =
    embeds_same (blocks_from (place_past BetweenHunks bs)) (blocks_from BetweenHunks) (object_blocks_labelled BetweenHunks bs) (λ cs. bs ++ cs)
    (λ cs h. (
      All-append IsBlock bs cs are h.0,
      subst (AreInOrder false) (sym (map-append (λ b. standing b.body) bs cs))
          (leads_end false has (standings bs) (standings cs) leads (subst (λ (k : Bool). AreInOrder k (standings cs)) (content_after BetweenHunks bs has leads) h.1)),
    ))
    (λ cs h. blocks-append BetweenHunks bs cs) (λ role w reason h. h)

-- What is expected after these blocks is expected of the hunk.
pub expects_after : (bs : ObjectHunk) (has : Bool) → AllByRecursion IsBlock bs → Leads false (standings bs) has → (before : List ℕ) (role : ObjectRole) → Expects (blocks_from (place_past BetweenHunks bs)) before role →
    Expects (blocks_from BetweenHunks) (flat_map block_text bs ++ before) role
unfolding blocks_embed embeds_same
expects_after bs has are leads before role e =
    subst (λ ws. Expects (blocks_from BetweenHunks) (ws ++ before) role) (blocks_words BetweenHunks bs)
    (expects_embedded (blocks_from (place_past BetweenHunks bs)) (blocks_from BetweenHunks) (object_blocks_labelled BetweenHunks bs) (blocks_embed bs has are leads) before role e)
