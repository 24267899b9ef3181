use Rattle.regex_meaning.proofs.CodeUnitOffsetsLemmas.{utf8_text-IsText, ascii_text-IsText, utf16_text-IsText, ucs2_text-IsText}
use Rattle.regex_meaning.proofs.encoded_texts_have_rising_offsets.Goals as goal

pub returns : goal.returns
returns c units unicode =
    (utf8_text-IsText units unicode, ascii_text-IsText units unicode, utf16_text-IsText units unicode, ucs2_text-IsText units unicode)
