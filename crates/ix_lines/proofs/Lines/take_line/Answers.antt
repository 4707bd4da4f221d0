use Rattle.std.proofs.Common.{◌≡◌, ◌+◌, ◌-◌, [], Some, refl, sym, ap, subst, ◌∙◌, arith, take, length, ◌++◌}
use Rattle.std.proofs.lemmas.List.{length-take-le}
use Rattle.ix_lines.specs.Items.{line}
use Rattle.ix_lines.specs.Feeding.{unfinished, Feeds, holds_after}
use Rattle.ix_lines.specs.inside.Buffer.{shown}
use Rattle.ix_lines.proofs.WindowLemmas.{found_line, found_long, found_none, open_shown, on_ok, kept}
use Rattle.ix_lines.proofs.Lines.take_line.Goals as goal

-- the line ends
pub returns-in-Some : goal.returns-in-Some
returns-in-Some c =
    let piece = c.args.piece.now in
    let part = take c.self.inside.open_len c.self.inside.buffer.items in
    let open_facts = open_shown c.self.inside.skipping part c.args.self.now c.self.view_is c.requires in
    let count : length part ≡ c.self.inside.open_len = length-take-le c.self.inside.open_len c.self.inside.buffer.items c.self.invariant.within in
    let window = take c.min.result piece in
    let end = c.in-Some.end in
    let found = found_line part piece (513 - c.self.inside.open_len) c.min.result c.self.invariant.plain (omega (arith, c.self.invariant.fits)) c.min.ensures
    end c.in-Some.ensures.0 c.in-Some.ensures.1 in
    let extends = c.try_extend_from_slice.ensures in
    let text : c.as_slice.result.now ≡ part ++ take end window =
    c.as_slice.ensures.value ∙ on_ok c.try_extend_from_slice.result _ (extends.variant.1 (omega (arith, found.0, c.truncate.ensures.items))) extends.ok
    ∙ ap (λ t. t ++ take end window) c.truncate.ensures.items in (
      (
        refl,
        (λ _. tt),
        ap (λ test. shown test []) open_facts.0 ∙ sym (ap (λ h. holds_after h (take (end + 1) piece)) open_facts.1 ∙ found.2),
      ),
      record {
        tells = rw open_facts.1 (subst (λ t. Feeds (unfinished part) piece (Some (line t)) (end + 1)) (sym text) found.1);
        holds = tt;
      },
    )

-- the line is too long
pub returns-in-None : goal.returns-in-None
returns-in-None c =
    let piece = c.args.piece.now in
    let part = take c.self.inside.open_len c.self.inside.buffer.items in
    let open_facts = open_shown c.self.inside.skipping part c.args.self.now c.self.view_is c.requires in
    let count : length part ≡ c.self.inside.open_len = length-take-le c.self.inside.open_len c.self.inside.buffer.items c.self.invariant.within in
    let room = 513 - c.self.inside.open_len in
    let found = found_long part piece room c.min.result c.self.invariant.plain (omega (arith, c.self.invariant.fits)) c.min.ensures
    c.in-None.ensures c.if-window-room.true in (
      (refl, (λ _. tt), sym (ap (λ h. holds_after h (take room piece)) open_facts.1 ∙ found.1)),
      record { tells = rw open_facts.1 found.0; holds = tt },
    )

-- the piece ends first
pub returns-in-None-2 : goal.returns-in-None-2
returns-in-None-2 c =
    let piece = c.args.piece.now in
    let part = take c.self.inside.open_len c.self.inside.buffer.items in
    let open_facts = open_shown c.self.inside.skipping part c.args.self.now c.self.view_is c.requires in
    let count : length part ≡ c.self.inside.open_len = length-take-le c.self.inside.open_len c.self.inside.buffer.items c.self.invariant.within in
    let window = take c.min.result piece in
    let found = found_none part piece (513 - c.self.inside.open_len) c.min.result c.self.invariant.plain (omega (arith, c.self.invariant.fits)) c.min.ensures
    c.in-None.ensures c.if-window-room.false in
    let extends = c.try_extend_from_slice-in-None-2.ensures in
    let bytes = c.try_extend_from_slice-in-None-2.new.self.items in
    let text : bytes ≡ part ++ window =
    on_ok c.try_extend_from_slice-in-None-2.result _ (extends.variant.1 (omega (arith, found.0, c.truncate.ensures.items))) extends.ok
    ∙ ap (λ t. t ++ window) c.truncate.ensures.items in
    let facts = kept part window bytes c.self.inside.open_len count text found.0 found.1 in (
      (
        refl,
        (λ _. tt),
        ap (λ test. shown test (take (c.self.inside.open_len + length window) bytes)) open_facts.0 ∙ ap unfinished facts.1
            ∙ sym (ap (λ h. holds_after h (take (length window) piece)) open_facts.1 ∙ found.3),
      ),
      record { tells = rw open_facts.1 found.2; holds = tt },
    )

pub invariant_of-self-in-None-2 : goal.invariant_of-self-in-None-2
invariant_of-self-in-None-2 c =
    let piece = c.args.piece.now in
    let part = take c.self.inside.open_len c.self.inside.buffer.items in
    let count : length part ≡ c.self.inside.open_len = length-take-le c.self.inside.open_len c.self.inside.buffer.items c.self.invariant.within in
    let window = take c.min.result piece in
    let found = found_none part piece (513 - c.self.inside.open_len) c.min.result c.self.invariant.plain (omega (arith, c.self.invariant.fits)) c.min.ensures
    c.in-None.ensures c.if-window-room.false in
    let extends = c.try_extend_from_slice-in-None-2.ensures in
    let bytes = c.try_extend_from_slice-in-None-2.new.self.items in
    let text : bytes ≡ part ++ window =
    on_ok c.try_extend_from_slice-in-None-2.result _ (extends.variant.1 (omega (arith, found.0, c.truncate.ensures.items))) extends.ok
    ∙ ap (λ t. t ++ window) c.truncate.ensures.items in
    (kept part window bytes c.self.inside.open_len count text found.0 found.1).0
