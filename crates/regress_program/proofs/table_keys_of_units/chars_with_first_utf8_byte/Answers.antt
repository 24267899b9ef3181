-- Each arm has the characters that begin with its bytes.
use Rattle.std.proofs.Common.{◌≡◌, ◌+◌, ◌-◌, ◌*◌, Some, None, arith}
use Rattle.regress_program.proofs.TableKeysOfUnitsLemmas.{begun-bytes, begun-1, begun-2, begun-3, begun-4, begun-inside, begun-past}
use Rattle.regress_program.proofs.table_keys_of_units.chars_with_first_utf8_byte.Goals as goal

pub returns-in-0-to-127-clause-begun : goal.returns-in-0-to-127-clause-begun
returns-in-0-to-127-clause-begun c =
    let same : c.from-b.result ≡ c.args.byte = omega arith in
    begun-bytes c.args.byte (Some (record { range = record { first = c.from-b.result; last = c.from-b.result }; width = 1 }))
    (λ d len led. rw same (begun-1 c.args.byte d len (omega arith) led))

pub returns-in-194-to-223-clause-begun : goal.returns-in-194-to-223-clause-begun
returns-in-194-to-223-clause-begun c =
    let same : c.from-b.result ≡ c.args.byte = omega arith in
    begun-bytes c.args.byte (Some (record { range = record { first = (c.from-b.result - 0xC0) * 0x40; last = (c.from-b.result - 0xC0) * 0x40 + 0x3F }; width = 2 }))
    (λ d len led. rw same (begun-2 c.args.byte d len (omega arith) (omega arith) led))

pub returns-in-224-to-239-clause-begun : goal.returns-in-224-to-239-clause-begun
returns-in-224-to-239-clause-begun c =
    begun-bytes c.args.byte (Some (record { range = record { first = c.max.result; last = (c.from-b.result - 0xE0) * 0x1000 + 0xFFF }; width = 3 }))
    (λ d len led. let h = begun-3 c.args.byte d len (omega arith) (omega arith) led in (omega (arith, h.0, h.1), omega (arith, h.2), h.3))

pub returns-in-240-to-244-clause-begun : goal.returns-in-240-to-244-clause-begun
returns-in-240-to-244-clause-begun c =
    begun-bytes c.args.byte (Some (record { range = record { first = c.max-in-240-to-244.result; last = c.min.result }; width = 4 }))
    (λ d len led. let h = begun-4 c.args.byte d len (omega arith) (omega arith) led in (omega (arith, h.0, h.1), omega (arith, h.2, h.3), h.4))

pub returns-in_default-clause-begun : goal.returns-in_default-clause-begun
returns-in_default-clause-begun c = begun-bytes c.args.byte None (λ d len led. begun-inside c.args.byte d len (omega arith) (omega arith) led)

pub returns-in_default-2-clause-begun : goal.returns-in_default-2-clause-begun
returns-in_default-2-clause-begun c = begun-bytes c.args.byte None (λ d len led. begun-past c.args.byte d len (omega arith) led)
