-- The number of each reason. Document 01, the table of "Refused calls".
use Rattle.std.specs.Prelude.{ℕ}
use Rattle.refusals.specs.declared.reason.Reason.{Reason}
use Rattle.refusals.specs.declared.reason.Reason.TheVariants.{LongText, NoAscii, LoneReturn, ShortWork, ShortSegment, KnownSegment, ShortLink, NoFromSign, BadFromSign, NoToSign, BadToSign, ShortPath, BadStep, ShortWalk, EmptyStep, NoStep, EmptyLastStep, UnknownSegment, StarSegment, NoPath, ShortOutput}

abbrev pub number_of : Reason → ℕ
number_of LongText = 1
number_of NoAscii = 2
number_of LoneReturn = 3
number_of ShortWork = 4
number_of ShortSegment = 5
number_of KnownSegment = 6
number_of ShortLink = 7
number_of NoFromSign = 8
number_of BadFromSign = 9
number_of NoToSign = 10
number_of BadToSign = 11
number_of ShortPath = 12
number_of BadStep = 13
number_of ShortWalk = 14
number_of EmptyStep = 15
number_of NoStep = 16
number_of EmptyLastStep = 17
number_of UnknownSegment = 18
number_of StarSegment = 19
number_of NoPath = 21
number_of ShortOutput = 22
