use Rattle.std.proofs.Common.{◌++◌, ◌+◌, ◌∙◌, List, ℕ, ap, arith, length, take}
use Rattle.octets.proofs.Fields.{drop_further}
use Rattle.octets.specs.declared.limits.TheConstants.{NAME_LENGTH}
use Rattle.pdi_session.specs.telegram.Names.{IsName, fill_name}
use Rattle.pdi_session.proofs.WrittenLemmas.{named_front}
use Rattle.pdi_session.proofs.telegram.codec.put_name.Goals as goal

pub returns-clause-front : goal.returns-clause-front
returns-clause-front c =
    let is : IsName c.as_bytes-characters.result.now = rw c.as_bytes-characters.ensures.value
    c.as_str.ensures.well_formed in
    named_front c.args.place c.as_bytes-characters.result.now c.args.buffer.now c.put_octets.new.buffer
    c.put_octets-2.new.buffer is c.requires
    c.put_octets.ensures.front c.put_octets-2.ensures.front c.put_octets-2.ensures.rest
    ∙ ap (λ (name : List ℕ). take c.args.place c.args.buffer.now ++ fill_name name) (c.as_bytes-characters.ensures.value
    ∙ c.as_str.ensures.characters)

pub returns-clause-rest : goal.returns-clause-rest
returns-clause-rest c =
    let is : IsName c.as_bytes-characters.result.now = rw c.as_bytes-characters.ensures.value
    c.as_str.ensures.well_formed in
    drop_further (c.args.place + length c.as_bytes-characters.result.now) (c.args.place + NAME_LENGTH)
    c.put_octets-2.new.buffer c.put_octets.new.buffer (omega (arith, is.1))
    c.put_octets-2.ensures.rest
    ∙ c.put_octets.ensures.rest
