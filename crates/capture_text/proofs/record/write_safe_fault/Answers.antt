use Rattle.capture_text.proofs.record.write_safe_fault.Goals as goal

pub returns : goal.returns
returns g c = rw (c.number-number.ensures, c.name-name.ensures) at c.write_fault.ensures
