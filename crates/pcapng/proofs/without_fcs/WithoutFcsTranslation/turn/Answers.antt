use Rattle.std.proofs.Common.{◌++◌, ◌∙◌, ℕ, List, take, ap}
use Rattle.pcapng.specs.WithoutFcs.{cut_record}
use Rattle.pcapng.proofs.FcsLaws.{header_cut, whole_cut, rest_cut, part_cut, passed_turned}
use Rattle.pcapng.proofs.without_fcs.WithoutFcsTranslation.turn.Goals as goal

pub returns-in_ok-extend_from_slice-in-Header-clause-turned : goal.returns-in_ok-extend_from_slice-in-Header-clause-turned
returns-in_ok-extend_from_slice-in-Header-clause-turned g c =
    let octets = c.args.octets.now in
    header_cut c.args.self.now.stage c.in-Header.endian octets c.args.is_last c.extend_from_slice.new.self.items
    c.in-Header.ensures.piece c.in-Header.ensures.fits
    (c.in_ok-extend_from_slice-in-Header.ensures.items ∙ ap (λ (l : List ℕ). l ++ take 24 octets) c.requires)

pub returns-in_ok-put_record-in-Whole-clause-turned : goal.returns-in_ok-put_record-in-Whole-clause-turned
returns-in_ok-put_record-in-Whole-clause-turned g c =
    let octets = c.args.octets.now in
    let e = c.in-Whole.endian in
    let n = c.in-Whole.size in
    whole_cut c.args.self.now.stage e n octets c.args.is_last c.put_record.new.out.items
    c.in-Whole.ensures.piece c.in-Whole.ensures.fits.0 c.in-Whole.ensures.fits.1
    (c.in_ok-put_record-in-Whole.ensures.put ∙ ap (λ (l : List ℕ). l ++ cut_record e (take n octets)) c.requires)

pub returns-else-not-is_last-clause-turned : goal.returns-else-not-is_last-clause-turned
returns-else-not-is_last-clause-turned g c =
    passed_turned c.pass_on.result c.args.self.now c.pass_on.new.self c.args.octets.now c.args.is_last c.args.out.now.items c.pass_on.new.out.items
    c.requires (λ put. part_cut c.args.self.now.stage c.args.octets.now c.args.is_last put c.in-Part.ensures.piece c.if-not-is_last.false)
    c.pass_on.ensures.passed

pub returns-in-Rest-clause-turned : goal.returns-in-Rest-clause-turned
returns-in-Rest-clause-turned g c =
    passed_turned c.pass_on-in-Rest.result c.args.self.now c.pass_on-in-Rest.new.self c.args.octets.now c.args.is_last c.args.out.now.items c.pass_on-in-Rest.new.out.items
    c.requires (λ put. rest_cut c.args.self.now.stage c.args.octets.now c.args.is_last put c.in-Rest.ensures.piece)
    c.pass_on-in-Rest.ensures.passed
