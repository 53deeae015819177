-- `error::values` meets its contract: each arm gives the floats of its refusal. Assumes nothing.
use Rattle.error.proofs.values.Goals as goal

pub returns-in-InvalidRatio : goal.returns-in-InvalidRatio
returns-in-InvalidRatio c = rw c.in-InvalidRatio.is c.one.ensures

pub returns-in-InvalidRelativeRatio : goal.returns-in-InvalidRelativeRatio
returns-in-InvalidRelativeRatio c = rw c.in-InvalidRelativeRatio.is c.one-in-InvalidRelativeRatio.ensures

pub returns-in-RatioOutOfBounds : goal.returns-in-RatioOutOfBounds
returns-in-RatioOutOfBounds c = rw c.in-RatioOutOfBounds.is

pub returns-in-RatioBeyondPort : goal.returns-in-RatioBeyondPort
returns-in-RatioBeyondPort c = rw c.in-RatioBeyondPort.is c.one-in-RatioBeyondPort.ensures

pub returns-in-InvalidChunkSize : goal.returns-in-InvalidChunkSize
returns-in-InvalidChunkSize c = rw c.in-InvalidChunkSize.is c.none.ensures

pub returns-in-SizeTooLarge : goal.returns-in-SizeTooLarge
returns-in-SizeTooLarge c = rw c.in-SizeTooLarge.is c.none-in-SizeTooLarge.ensures

pub returns-in-Channels : goal.returns-in-Channels
returns-in-Channels c = rw c.in-Channels.is c.none-in-Channels.ensures

pub returns-in-BufferShape : goal.returns-in-BufferShape
returns-in-BufferShape c = rw c.in-BufferShape.is c.none-in-BufferShape.ensures

pub returns-in-Reach : goal.returns-in-Reach
returns-in-Reach c = rw c.in-Reach.is c.none-in-Reach.ensures

pub returns-in-StateRecord : goal.returns-in-StateRecord
returns-in-StateRecord c = rw c.in-StateRecord.is c.none-in-StateRecord.ensures

pub returns-in-Argument : goal.returns-in-Argument
returns-in-Argument c = rw c.in-Argument.is c.none-in-Argument.ensures
